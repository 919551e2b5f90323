use Rattle.std.proofs.Common.{◌≡◌, take}
use Rattle.ocf_model.specs.Indexes.{at_index}
use Rattle.resource_status.specs.Results.{is_run, last_of}
use Rattle.resource_status.proofs.results.last_run.Given as goal

abbrev pub invariant-loop-at : goal.invariant-loop-at
invariant-loop-at l = l.last ≡ last_of (is_run l.call) (take l.at (at_index l.state.state l.index).history.ended)
