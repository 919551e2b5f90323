use Rattle.std.proofs.Common.{◌≡◌, ◌+◌, ◌<◌, ◌≤◌, ◌++◌, ◌∷◌, [], length, take, List, ap, ◌∙◌, arith}
use Rattle.std.proofs.lemmas.List.{map_more}
use Rattle.recurring.specs.declared.monitor.Monitor.{Monitor}
use Rattle.recurring.specs.DueCalls.{due_call_of, pairs_of}
use Rattle.recurring.specs.Monitors.{pair, pairs}
use Rattle.recurring.proofs.DueLists.{prefix_more, prefix_all, pairs_of-due_calls}
use Rattle.recurring.proofs.due_calls.DueCalls.renew.Goals as goal

pub loop-index-preserved : goal.loop-index-preserved
loop-index-preserved c =
    let ms : List Monitor = c.as_slice-monitors.result.now in
    let i = c.loop-index.index in
    let m = c.index-monitors-index.result in
    let within : i < length ms = c.loop-index-test.true in
    let laid = rw (← c.index-monitors-index.is) at (prefix_more due_call_of ms c.truncate.new.self.items c.loop-index.calls.items i m within
    c.loop-index.invariant.calls) in
    let more : pairs (take (i + 1) ms) ≡ pairs (take i ms) ++ pair m ∷ []
    = rw (← c.index-monitors-index.is) at (map_more pair ms i m within) in
    record {
      calls = (rw c.of.ensures at c.put.ensures) ∙ laid;
      first = rw more (rw c.of-in-loop-index.ensures at (c.first_moment-first.ensures (pairs (take i ms)) c.loop-index.invariant.first));
    }

pub returns-clause-calls : goal.returns-clause-calls
returns-clause-calls c =
    let ms : List Monitor = c.as_slice-monitors.result.now in
    let short : length c.truncate.new.self.items ≤ c.loop-index.index
    = omega (arith, c.truncate.ensures.len, c.loop-index-test.false) in
    ap pairs_of (prefix_all due_call_of ms c.truncate.new.self.items c.loop-index.calls.items c.loop-index.index c.loop-index-test.false
    short c.loop-index.invariant.calls) ∙ pairs_of-due_calls ms ∙ ap pairs c.as_slice-monitors.ensures.value
