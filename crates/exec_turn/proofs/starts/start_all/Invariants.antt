use Rattle.std.proofs.Common.{◌≡◌, ◌≤◌, ◌+◌, ◌++◌, [], List, take, drop, length, vec_len}
use Rattle.std.specs.Vec.{vec_capacity}
use Rattle.ocf_types.specs.declared.notice.Notice.{Notice}
use Rattle.child_model.specs.Children.{live_limit}
use Rattle.exec_turn.specs.Launches.{actions_of_starts}
use Rattle.exec_turn.specs.Starts.{Rising, Starts}
use Rattle.exec_turn.proofs.starts.start_all.Given as goal

abbrev pub invariant-loop-start : goal.invariant-loop-start
invariant-loop-start g l =
    let view = g.C.Children.view in
    let clock = (g.T.Store.view l.store).clock in
    let i = l.start-index in
    record {
      started : (reported : List Notice)
          × Starts l.at clock (actions_of_starts (take i l.starts)) (view l.fn.children) (view l.children) l.batch.items reported
          × (l.notices.items ≡ l.fn.notices.items ++ reported);
      rising : Rising (view l.children).last_run (actions_of_starts (drop i l.starts));
      few : length (view l.children).live + length l.starts ≤ live_limit + i;
      room : length l.starts ≤ (view l.children).room + i;
      ended : (view l.children).given_up ≡ [];
      site : (view l.children).site ≡ (view l.fn.children).site;
      batch_len : vec_len l.batch ≤ i;
      notice_len : vec_len l.notices ≤ vec_len l.fn.notices + i;
      batch_room : vec_capacity l.batch ≡ vec_capacity l.fn.batch;
      notice_room : vec_capacity l.notices ≡ vec_capacity l.fn.notices;
    }
