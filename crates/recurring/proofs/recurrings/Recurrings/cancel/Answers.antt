use Rattle.std.proofs.Common.{◌==◌, rules, not, ap, ◌∙◌}
use Rattle.arrayvec.proofs.ArrayVecLemmas.{filter-from_retain}
use Rattle.recurring.specs.Monitors.{recurs}
use Rattle.recurring.proofs.Recurs.{recurs-cancelled}
use Rattle.recurring.proofs.recurrings.Recurrings.cancel.Goals as goal

pub returns-clause-monitors : goal.returns-clause-monitors
returns-clause-monitors c =
    rw (← c.self.view_is) (filter-from_retain _ (λ m. not (m.recur.interval == c.args.interval)) _
    (λ x b f' y called. search rules) _ _ c.retain.ensures.filtered)

pub returns-clause-recurs : goal.returns-clause-recurs
returns-clause-recurs c = ap recurs (returns-clause-monitors c) ∙ recurs-cancelled c.args.interval c.args.self.now
