use Rattle.resource_status.specs.Runs.{left_by}
use Rattle.resource_status.proofs.counting.count_event.Goals as goal

pub returns : goal.returns
returns c = record {
  counted = λ runs were.
      c.count_ended.ensures.counted (left_by c.args.event.now.change runs) (c.forget_by.ensures runs were);
}
