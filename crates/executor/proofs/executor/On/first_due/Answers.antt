use Rattle.std.proofs.Common.{ap, subst, ◌∙◌}
use Rattle.exec_state.specs.StateValue.{all_pairs}
use Rattle.executor.specs.ExecutorView.{ExecutorView}
use Rattle.recurring.specs.Monitors.{IsFirstMoment}
use Rattle.executor.proofs.executor.On.first_due.Goals as goal

pub returns : goal.returns
returns g c = record {
  first = subst (λ m. IsFirstMoment (all_pairs m) c.first_due.result)
      (c.state.ensures.monitors ∙ ap (λ (x : ExecutorView _). x.monitors) c.self.view_is) c.first_due.ensures;
}
