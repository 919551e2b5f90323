use Rattle.std.proofs.Common.{◌≡◌, ◌≤◌, ◌*◌, nat_eq, Contains, length, take, drop, vec_len}
use Rattle.std.specs.List.{AllByRecursion, IsDistinct, flat_map}
use Rattle.std.specs.Vec.{vec_capacity}
use Rattle.exec_ledger.specs.Actives.{active_in, runs_of}
use Rattle.exec_turn.specs.Polls.{Polls}
use Rattle.exec_turn.proofs.polls.poll_all.Given as goal

abbrev pub invariant-loop-index : goal.invariant-loop-index
invariant-loop-index g l =
    let rs = l.state.state.resources in
    let to_come = flat_map active_in (drop l.index rs) in
    record {
      polled : Polls l.at (flat_map active_in (take l.index rs)) (g.C.Children.view l.fn.children)
          (g.C.Children.view l.children) l.batch.items l.notices.items;
      lives : AllByRecursion (λ run. Contains (g.C.Children.view l.children).live run) (runs_of to_come);
      distinct : IsDistinct nat_eq (runs_of to_come);
      room : 2 * length to_come ≤ (g.C.Children.view l.children).room;
      batch_few : vec_len l.batch ≤ l.index;
      notices_few : vec_len l.notices ≤ l.index;
      batch_room : vec_capacity l.batch ≡ vec_capacity l.fn.batch;
      notice_room : vec_capacity l.notices ≡ vec_capacity l.fn.notices;
    }
