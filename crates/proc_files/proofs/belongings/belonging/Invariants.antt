-- A step advances by one process, and may move some of the rest to the end of those found.
use Rattle.std.proofs.Common.{◌+◌, ◌-◌, length}
use Rattle.proc_files.proofs.BelongingLemmas.{IsSearchedTo}
use Rattle.proc_files.proofs.belongings.belonging.Given as goal

abbrev pub invariant-loop-at : goal.invariant-loop-at
invariant-loop-at g l = IsSearchedTo l.known l.groups l.table l.at l.found.items l.rest.items

abbrev pub decreases-loop-at : goal.decreases-loop-at
decreases-loop-at g l = length l.rest.items + (length l.found.items - l.at)
