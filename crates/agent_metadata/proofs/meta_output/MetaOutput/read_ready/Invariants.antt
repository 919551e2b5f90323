-- If all that was read is kept, it is what was kept before with what was read so far.
use Rattle.agent_metadata.specs.MetaOutputs.{KeepsAll}
use Rattle.agent_metadata.proofs.meta_output.MetaOutput.read_ready.Given as goal

abbrev pub invariant-loop : goal.invariant-loop
invariant-loop g l = KeepsAll (g.S.Read.remaining l.fn.stream) (g.S.Read.remaining l.stream) l.fn.self l.self
