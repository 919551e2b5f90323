-- The view of the registry.
use Rattle.std.specs.Prelude.{ℕ, Bool}
use Rattle.ocf_model.specs.State.{Registry}
use Rattle.exec_state.specs.StateValue.{StateValue, Monitors}

-- the resources and their recurring monitors, by id and in order of registration, and whether one more resource can be
-- registered without an allocation
pub record RegistryView : Type 0 where
  pub resources : Registry
  pub monitors : Monitors
  pub ready : Bool

-- the view of the state machine with these next numbers, this clock and this registry, and whether its allocator refuses growths
abbrev pub value_of : Bool → ℕ → ℕ → ℕ → RegistryView → StateValue
value_of refuses next_call next_run clock contents = record {
  state = record { next_call = next_call; next_run = next_run; clock = clock; resources = contents.resources };
  monitors = contents.monitors;
  ready = contents.ready;
  refuses = refuses;
}
