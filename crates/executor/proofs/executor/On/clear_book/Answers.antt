use Rattle.std.proofs.Common.{subst, sym}
use Rattle.child_model.specs.Children.{ChildrenView}
use Rattle.exec_turn.specs.Turns.{turn_notices}
use Rattle.executor.specs.Reports.{remembered_report}
use Rattle.executor.specs.ExecutorView.{ChildrenKeep, executor_view}
use Rattle.executor.proofs.executor.On.clear_book.Goals as goal

pub invariant_of-self : goal.invariant_of-self
invariant_of-self g c is_open =
    let x = c.self.inside in
    let tends = c.self.invariant is_open in
    subst (λ (v : ChildrenView). ChildrenKeep (executor_view x.ledger v x.site (turn_notices x.buffers) (remembered_report x.opening_report))) (sym c.clear_book.ensures.emptied)
    (record {
      matched = record { agents_live = tends.matched.agents_live; ended = tends.matched.ended; rising = tends.matched.rising };
      admits = tends.admits;
    })
