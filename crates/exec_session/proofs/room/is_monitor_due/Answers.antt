use Rattle.std.proofs.Common.{subst}
use Rattle.exec_state.specs.StateValue.{all_pairs}
use Rattle.recurring.specs.Monitors.{IsFirstMoment}
use Rattle.exec_session.proofs.RoomLemmas.{first_within}
use Rattle.exec_session.proofs.room.is_monitor_due.Goals as goal

pub returns-in-Some : goal.returns-in-Some
returns-in-Some g c =
    let pairs = all_pairs c.args.executor.now.monitors in
    rw c.saturating_sub.ensures (first_within pairs c.args.now c.args.lasts c.in-Some.due
    (subst (λ f. IsFirstMoment pairs f) c.in-Some.is c.first_due.ensures.first))
