use Rattle.std.proofs.Common.{refl, subst}
use Rattle.exec_turn.specs.Turns.{turn_notices}
use Rattle.executor.specs.Reports.{remembered_report}
use Rattle.executor.specs.ExecutorView.{ExecutorView, executor_view}
use Rattle.executor.specs.TidyCalls.{TidiesWhile}
use Rattle.executor.specs.BatchLemmas.{with_ledger}
use Rattle.executor.proofs.Sharing.{tidied_tends, tidy_taken}
use Rattle.executor.proofs.executor.On.tidy_at_once.Goals as goal

pub invariant_of-self : goal.invariant_of-self
invariant_of-self g c =
    let e = c.self.inside in
    let x = executor_view e.ledger (g.C.Children.view e.children) e.site (turn_notices e.buffers) (remembered_report e.opening_report) in
    tidied_tends g.S.Store.view x.is_open x c.tidy.new.self c.tidy.result refl c.tidy.ensures.tidies c.self.invariant

pub returns : goal.returns
returns g c =
    let e = c.self.inside in
    let x = executor_view e.ledger (g.C.Children.view e.children) e.site (turn_notices e.buffers) (remembered_report e.opening_report) in
    let h = c.tidy.new.self in
    record {
      tidies = subst (λ (y : ExecutorView _). TidiesWhile y.is_open g.S.Store.view y (with_ledger x h) c.tidy.result) c.self.view_is
          (tidy_taken g.S.Store.view x.is_open x h c.tidy.result c.tidy.ensures.tidies);
    }
