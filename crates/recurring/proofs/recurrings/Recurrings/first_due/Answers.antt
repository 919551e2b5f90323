use Rattle.std.proofs.Common.{◌≡◌, ◌+◌, ◌++◌, [], ◌∷◌, take, arith, List}
use Rattle.std.proofs.lemmas.List.{map_more, take_all}
use Rattle.recurring.specs.declared.monitor.Monitor.{Monitor}
use Rattle.recurring.specs.Monitors.{pair, pairs}
use Rattle.recurring.proofs.recurrings.Recurrings.first_due.Goals as goal

pub loop-m-preserved : goal.loop-m-preserved
loop-m-preserved c =
    let ms : List Monitor = c.as_slice-m-items.result.now in
    let i = c.loop-m.m-index in
    let more : pairs (take (i + 1) ms) ≡ pairs (take i ms) ++ pair c.m-item.result ∷ []
    = rw (← c.m-item.is) at (map_more pair ms i c.m-item.result (omega arith)) in
    rw more (rw c.of.ensures at (c.first_moment-first.ensures (pairs (take i ms)) c.loop-m.invariant))

pub returns : goal.returns
returns c =
    let ms : List Monitor = c.as_slice-m-items.result.now in
    let all : take c.loop-m.m-index ms ≡ ms = take_all c.loop-m.m-index ms (omega arith) in
    rw (← c.self.view_is, ← c.as_slice-m-items.ensures.value, ← all) c.loop-m.invariant
