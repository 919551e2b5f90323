use Rattle.std.proofs.Common.{arith, ap, ◌∙◌}
use Rattle.std.proofs.lemmas.Grind.{common_steps}
use Rattle.std.proofs.lemmas.List.Edits.{map_over_more}
use Rattle.recurring.specs.Monitors.{recurs, settled_one}
use Rattle.recurring.proofs.Recurs.{recurs-settled}
use Rattle.recurring.proofs.recurrings.Recurrings.settle.Goals as goal

pub loop-m-preserved : goal.loop-m-preserved
loop-m-preserved c =
    rw (c.settle.ensures, ← c.m-item.is)
    (map_over_more (settled_one c.args.call c.args.ended_at) c.as_mut_slice-m-items.result.now c.loop-m.m-items c.loop-m.m-index
    c.m-item.result (omega arith) c.loop-m.invariant c.m-item.is)

pub returns-clause-due : goal.returns-clause-due
returns-clause-due c = grind (arith, common_steps)

pub returns-clause-recurs : goal.returns-clause-recurs
returns-clause-recurs c = ap recurs (returns-clause-due c) ∙ recurs-settled c.args.call c.args.ended_at c.args.self.now
