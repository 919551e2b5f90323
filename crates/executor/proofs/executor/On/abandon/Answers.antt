use Rattle.std.proofs.Common.{subst}
use Rattle.exec_turn.specs.Turns.{turn_notices}
use Rattle.executor.specs.Reports.{remembered_report}
use Rattle.executor.specs.ExecutorView.{ExecutorView, executor_view}
use Rattle.executor.specs.TurnCalls.{Abandons}
use Rattle.executor.proofs.executor.On.abandon.Goals as goal

pub returns : goal.returns
returns g c =
    let e = c.self.inside in
    let kids = g.C.Children.view c.give_up_all.new.self in
    let report = remembered_report e.opening_report in
    let y = executor_view c.close.new.self kids e.site (turn_notices e.buffers) report in
    record {
      abandoned = subst (λ (z : ExecutorView _). Abandons z y) c.self.view_is (
        kids,
        c.give_up_all.ensures.ended,
        λ i. executor_view (c.close.ensures.closed i) kids e.site (turn_notices e.buffers) report,
      );
    }
