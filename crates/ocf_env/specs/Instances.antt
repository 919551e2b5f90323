-- Instances of agents.
use Rattle.std.specs.Prelude.{ℕ, List}
use Rattle.ocf_types.specs.Params.{ParamList}
use Rattle.ocf_types.specs.Kinds.{Registration}
use Rattle.ocf_model.specs.Resource.{Resource}
use Rattle.ocf_env.specs.declared.launches.Instance.{Instance}

-- the registration that an instance borrows
abbrev pub registered : Instance ParamList → Registration
registered i = record { id = i.id.now; provider = i.provider.now; agent = i.agent.now; params = i.params.now }

-- the current registration of a resource
abbrev pub registration_of : List ℕ → Resource → Registration
registration_of id r = record { id = id; provider = r.provider; agent = r.agent; params = r.params }
