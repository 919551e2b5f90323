use Rattle.std.proofs.KnownBytes.{Appends-kept}
use Rattle.exec_lines.proofs.PrefixLemmas.{prefix_taken, taken_more}
use Rattle.exec_lines.proofs.PieceLemmas.{on_err}
use Rattle.exec_lines.proofs.reply.write_bytes.Goals as goal

pub returns-in_err-done-clause-prefix : goal.returns-in_err-done-clause-prefix
returns-in_err-done-clause-prefix g c =
    let kept = c.in_err-done.ensures.taken in
    on_err c.from_residual.result _
    (prefix_taken _ _ c.args.bytes.now c.loop.done (Appends-kept _ _ _ _ c.loop.invariant.1 kept))

pub loop-preserved : goal.loop-preserved
loop-preserved g c =
    taken_more _ _ _ c.args.bytes.now c.loop.done c.in_ok-done.field-0 c.loop.invariant.0 c.loop.invariant.1 c.in_ok-done.ensures.bound
    c.in_ok-done.ensures.taken

pub returns-clause-prefix : goal.returns-clause-prefix
returns-clause-prefix g c = prefix_taken _ _ c.args.bytes.now c.loop.done c.loop.invariant.1
