-- The entries in the slots so far.
use Rattle.agents_file.specs.Contents.{AreKept}
use Rattle.agents_file.proofs.contents.entries_in.Given as goal

abbrev pub invariant-loop-slot : goal.invariant-loop-slot
invariant-loop-slot g l = AreKept l.slot l.bytes l.kept.items
