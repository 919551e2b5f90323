use Rattle.std.proofs.Common.{[], ◌∷◌}
use Rattle.disk_model.specs.MemDisk.{kept_lawful}
use Rattle.executor_laws.specs.Joins.{as_calls}
use Rattle.test_incarnations.proofs.Steps.{begins, promised}
use Rattle.test_incarnations.proofs.live_twice.Goals as goal

pub returns : goal.returns
returns g c =
    let first = as_calls c.args.first.inputs.items c.in_ok-stopped.stopped.answers.replies.items in
    let second = as_calls c.args.second.inputs.items c.in_ok-last.last.answers.replies.items in
    let d = c.in_ok-last.last.disk in
    let one = c.in_ok-stopped.ensures.incarnations [] (begins c.new.result c.lemma_whole_history.ensures.fresh c.new.ensures.fresh) in
    let both = c.in_ok-last.ensures.incarnations (first ∷ []) one.0 in
    record {
      promised = promised c.promise.ensures (second ∷ first ∷ []) d (kept_lawful d d.current d.moments) both.0;
      first_answers = one.1;
      second_answers = both.1;
      memory = tt;
    }
