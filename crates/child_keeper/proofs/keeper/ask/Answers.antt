use Rattle.std.proofs.Common.{rules}
use Rattle.std.proofs.Math.Seq.{map-set_same}
use Rattle.child_keeper.proofs.keeper.ask.Goals as goal

pub returns-clause-processes : goal.returns-clause-processes
returns-clause-processes g c = map-set_same _ _ c.index-index.result _ c.index_mut.result.now (search rules)
