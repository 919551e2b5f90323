use Rattle.std.proofs.Common.{◌≡◌, ◌+◌, ◌++◌, [], ◌∷◌, take, arith, List}
use Rattle.std.proofs.lemmas.List.{map_more, take_all}
use Rattle.recurring.specs.declared.due_call.DueCall.{DueCall}
use Rattle.recurring.specs.DueCalls.{pair_of, pairs_of}
use Rattle.recurring.proofs.due_calls.DueCalls.first_moment.Goals as goal

pub loop-d-preserved : goal.loop-d-preserved
loop-d-preserved c =
    let ds : List DueCall = c.as_slice-d-items.result.now in
    let i = c.loop-d.d-index in
    let more : pairs_of (take (i + 1) ds) ≡ pairs_of (take i ds) ++ pair_of c.d-item.result ∷ []
    = rw (← c.d-item.is) at (map_more pair_of ds i c.d-item.result (omega arith)) in
    rw more (c.first_moment-first.ensures (pairs_of (take i ds)) c.loop-d.invariant)

pub returns : goal.returns
returns c =
    let ds : List DueCall = c.as_slice-d-items.result.now in
    let all : take c.loop-d.d-index ds ≡ ds = take_all c.loop-d.d-index ds (omega arith) in
    rw (← c.self.view_is, ← c.as_slice-d-items.ensures.value, ← all) c.loop-d.invariant
