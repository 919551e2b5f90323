use Rattle.std.proofs.Common.{List, ℕ, subst}
use Rattle.std.specs.Io.KnownBytes.{Appends}
use Rattle.exec_metrics.proofs.executor.executor_metrics.Goals as goal

pub returns-in-Ok-write_flushed-clause-written : goal.returns-in-Ok-write_flushed-clause-written
returns-in-Ok-write_flushed-clause-written g c = (
  c.in-Ok.text.items,
  c.in-Ok.ensures.text,
  subst (λ (x : List ℕ). Appends (g.W.Write.contents c.args.writer.now) (g.W.Write.contents c.write_flushed.new.writer) x) c.as_slice.ensures.value
      c.in-Ok-write_flushed.ensures.written,
)
