use Rattle.std.proofs.Common.{◌∙◌}
use Rattle.process_ends.specs.Endings.{processes}
use Rattle.child_keeper.proofs.WaitLemmas.{ends_more, part_more}
use Rattle.child_keeper.proofs.waits.await_ended.Goals as goal

pub loop-pauses-preserved : goal.loop-pauses-preserved
loop-pauses-preserved g c =
    record {
      given_up = c.remove_ended-in-loop-pauses.ensures.given_up;
      ends = ends_more _ _ _ c.loop-pauses.invariant.ends c.remove_ended-in-loop-pauses.ensures.ends;
      rest = part_more _ (processes c.loop-pauses.waits.items) _ c.remove_ended-in-loop-pauses.ensures.rest c.loop-pauses.invariant.rest;
      capacity = c.remove_ended-in-loop-pauses.ensures.capacity ∙ c.loop-pauses.invariant.capacity;
    }
