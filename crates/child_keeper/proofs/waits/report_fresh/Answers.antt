use Rattle.std.proofs.Common.{◌<◌, arith, length, slice_index_or}
use Rattle.std.proofs.lemmas.List.{get_or_default}
use Rattle.std.proofs.lemmas.List.Edits.{map_over_more}
use Rattle.child_keeper.specs.Waits.{reported}
use Rattle.child_keeper.proofs.waits.report_fresh.Goals as goal

pub loop-wait-preserved : goal.loop-wait-preserved
loop-wait-preserved g c =
    let ys = c.loop-wait.wait-items in
    let at = c.loop-wait.wait-index in
    let x = slice_index_or ys at c.wait-item.result in
    let within : at < length ys = omega arith in
    rw c.report.ensures (map_over_more reported c.as_mut_slice-wait-items.result.now ys at x c.loop-wait-test.true c.loop-wait.invariant (get_or_default ys at c.wait-item.result x within))
