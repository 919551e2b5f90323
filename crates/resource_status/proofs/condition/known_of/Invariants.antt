use Rattle.std.proofs.Common.{◌≡◌, take}
use Rattle.ocf_model.specs.Indexes.{at_index}
use Rattle.resource_status.specs.Conditions.{known_of}
use Rattle.resource_status.proofs.condition.known_of.Given as goal

abbrev pub invariant-loop-at : goal.invariant-loop-at
invariant-loop-at l = l.known ≡ known_of (take l.at (at_index l.state.state l.index).history.ended)
