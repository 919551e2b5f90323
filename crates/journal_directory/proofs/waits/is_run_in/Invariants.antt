use Rattle.std.proofs.Common.{◌≡◌, take, false}
use Rattle.std.specs.List.{list_any}
use Rattle.journal_directory.proofs.WaitLemmas.{runs}
use Rattle.journal_directory.proofs.waits.is_run_in.Given as goal

abbrev pub invariant-loop-index : goal.invariant-loop-index
invariant-loop-index l = list_any (runs l.run) (take l.index l.state.state.resources) ≡ false
