use Rattle.std.proofs.Common.{◌≡◌, ℕ, List, Option, Some}
use Rattle.ocf_model.specs.Due.{IsPick}
use Rattle.ocf_model.specs.Resource.{Resource}
use Rattle.ocf_model.specs.State.{resource_at}
use Rattle.exec_state.specs.RegistryView.{value_of}
use Rattle.exec_state.specs.Seen.{seen}
use Rattle.exec_state.specs.StateValue.{StateValue, dues}
use Rattle.exec_state.proofs.Picks.{choice}
use Rattle.exec_state.proofs.state.State.pick.Goals as goal

pub returns : goal.returns
returns g c =
    let s : StateValue = value_of g.A.Grows.refuses c.self.inside.next_call c.self.inside.next_run c.self.inside.clock c.self.inside.registry in
    let id : List ℕ = c.entry.result.0.now in
    let r : Resource = seen c.entry.result.1.now in
    let call : Option ℕ = c.pick.ensures.0 in
    let found : resource_at s.state id ≡ Some r = c.entry.ensures.by_id in
    let chosen = choice s id c.args.at call c.self.invariant (rw (found, c.entry.ensures.monitors) c.pick.ensures.1) in
    let pick : IsPick r (dues s id) c.args.at call = rw found at chosen in
    rw (← c.self.view_is, ← c.entry.ensures.id, ← c.entry.ensures.resource) (call, pick, c.pick.ensures.2)
