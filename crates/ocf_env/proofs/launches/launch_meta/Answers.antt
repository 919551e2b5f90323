use Rattle.std.proofs.Common.{◌≡◌, ap}
use Rattle.ocf_env.specs.Locations.{Call}
use Rattle.ocf_env.proofs.launches.launch_meta.Goals as goal

pub returns-clause-variables : goal.returns-clause-variables
returns-clause-variables g c =
    let same : c.in_ok-invocation.invocation.environment ≡ c.in_ok-environment.environment.items = ap
    (λ (i : Call). i.environment) c.in_ok-invocation.ensures.call in
    λ name value. rw same (c.in_ok-environment.ensures.variables name value)
