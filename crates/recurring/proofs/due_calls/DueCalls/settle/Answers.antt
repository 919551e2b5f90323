use Rattle.std.proofs.Common.{◌≡◌, ap, ◌∙◌, arith, map, length, List}
use Rattle.std.proofs.lemmas.List.{length-map}
use Rattle.std.proofs.lemmas.List.Edits.{map_over_more}
use Rattle.arrayvec.proofs.ArrayVecLemmas.{items-with_items}
use Rattle.recurring.specs.declared.due_call.DueCall.{DueCall}
use Rattle.recurring.specs.DueCalls.{pairs_of, settled_call}
use Rattle.recurring.proofs.DueLists.{map_over_all, pairs_of-settled}
use Rattle.recurring.proofs.due_calls.DueCalls.settle.Goals as goal

pub loop-d-preserved : goal.loop-d-preserved
loop-d-preserved c =
    rw (c.settled.ensures, ← c.d-item.is)
    (map_over_more (settled_call c.args.call c.args.due) c.as_mut_slice-d-items.result.now c.loop-d.d-items c.loop-d.d-index
    c.d-item.result (omega arith) c.loop-d.invariant c.d-item.is)

pub returns : goal.returns
returns c =
    let f = settled_call c.args.call c.args.due in
    let xs : List DueCall = c.as_mut_slice-d-items.result.now in
    let was = c.self.inside.calls in
    let all : c.loop-d.d-items ≡ map f was.items
    = map_over_all f xs c.loop-d.d-items c.loop-d.d-index (omega arith) c.loop-d.invariant ∙ ap (map f) c.as_mut_slice-d-items.ensures.value in
    let kept = items-with_items was c.loop-d.d-items (ap length all ∙ length-map was.items f) in
    rw (← c.self.view_is) (ap pairs_of (kept ∙ all) ∙ pairs_of-settled c.args.call c.args.due was.items)
