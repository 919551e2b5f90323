use Rattle.std.proofs.Common.{◌≡◌, ◌*◌, ◌≤◌, length}
use Rattle.std.specs.List.{AllByRecursion}
use Rattle.std.specs.Vec.{vec_capacity}
use Rattle.store_model.specs.Batches.{encoded_batch}
use Rattle.exec_state.specs.StateValue.{dues}
use Rattle.exec_turn.specs.Launches.{IsStart, actions_of_starts}
use Rattle.exec_turn.specs.Picks.{begins}
use Rattle.exec_turn.proofs.PickSteps.{SoFar}
use Rattle.exec_turn.proofs.picks.pick_all.Given as goal

abbrev pub invariant-loop-index : goal.invariant-loop-index
invariant-loop-index g l =
    let s = l.state.state in
    let begun = actions_of_starts l.starts.items in
    record {
      so_far : SoFar (g.C.Children.view l.children).held s (dues l.state) (g.T.Store.view l.store).tail l.at l.index l.run begun;
      batch : l.batch.items ≡ begins l.at begun;
      are_starts : AllByRecursion (IsStart l.site s) l.starts.items;
      len : l.len ≡ length (encoded_batch l.batch.items);
      short : l.len ≤ 90 * l.index;
      few : length l.starts.items ≤ l.index;
      batch_room : vec_capacity l.batch ≡ vec_capacity l.fn.batch;
      start_room : vec_capacity l.starts ≡ vec_capacity l.fn.starts;
    }
