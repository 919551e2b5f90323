use Rattle.std.proofs.Common.{refl, ◌∙◌}
use Rattle.process_ends.specs.Endings.{processes}
use Rattle.child_keeper.proofs.WaitLemmas.{ends_more, ends_same, part_removed, part_same}
use Rattle.child_keeper.proofs.waits.remove_ended.Goals as goal

pub loop-at-init : goal.loop-at-init
loop-at-init g c =
    record { given_up = c.requires.given_up; ends = ends_same _; rest = part_same (processes c.args.waits.now.items); capacity = refl }

pub loop-at-preserved : goal.loop-at-preserved
loop-at-preserved g c =
    record {
      given_up = c.goes_on.ensures.given_up;
      ends = ends_more _ _ _ c.loop-at.invariant.ends c.goes_on.ensures.ends;
      rest = rw c.if-goes_on.ensures.processes (part_removed (processes c.loop-at.waits.items) _ c.loop-at.at c.loop-at.invariant.rest);
      capacity = c.goes_on.ensures.capacity ∙ c.loop-at.invariant.capacity;
    }
