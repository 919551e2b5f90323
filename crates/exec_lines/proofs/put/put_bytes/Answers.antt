use Rattle.std.proofs.Common.{◌≤◌, arith}
use Rattle.std.proofs.KnownBytes.{Appends-kept}
use Rattle.exec_lines.proofs.PrefixLemmas.{prefix_taken, taken_more}
use Rattle.exec_lines.proofs.PieceLemmas.{on_err}
use Rattle.exec_lines.proofs.put.put_bytes.Goals as goal

pub returns-in_err-done-clause-prefix : goal.returns-in_err-done-clause-prefix
returns-in_err-done-clause-prefix g c =
    let kept = c.in_err-done.ensures.bytes in
    on_err c.from_residual.result _
    (prefix_taken _ _ c.args.bytes.now c.loop.done (Appends-kept _ _ _ _ c.loop.invariant.1 kept))

pub loop-preserved : goal.loop-preserved
loop-preserved g c =
    let (within, written, counted, end) = c.loop.invariant in
    let some : 1 ≤ c.in_ok-done.field-0 = c.in_ok-done.ensures.some in
    let more = taken_more _ _ _ c.args.bytes.now c.loop.done c.in_ok-done.field-0 within written c.in_ok-done.ensures.bound
    c.in_ok-done.ensures.bytes in
    (more.0, more.1, omega (arith, counted, some), end)
