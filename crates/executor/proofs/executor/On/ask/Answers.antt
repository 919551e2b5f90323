use Rattle.std.proofs.Common.{refl, sym, ◌∙◌}
use Rattle.exec_ledger.specs.Lemmas.{while_closed, while_open}
use Rattle.executor.proofs.executor.On.ask.Goals as goal

pub returns-then-not-is_open : goal.returns-then-not-is_open
returns-then-not-is_open g c =
    record { serves = λ now. while_closed _ (sym c.is_open.ensures.value ∙ c.if-not-is_open.true) (refl, refl) }

pub returns : goal.returns
returns g c = record {
  serves = λ now. while_open _ (sym c.is_open.ensures.value ∙ c.if-not-is_open.false) (c.answer.ensures.value, refl, c.answer.ensures.memory);
}
