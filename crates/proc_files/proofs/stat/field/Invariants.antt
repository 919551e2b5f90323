-- The fields so far, and what comes after them.
use Rattle.proc_files.proofs.StatLemmas.{StartsHere}
use Rattle.proc_files.proofs.stat.field.Given as goal

abbrev pub invariant-loop : goal.invariant-loop
invariant-loop l = StartsHere l.text l.counter l.rest
