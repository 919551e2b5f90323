use Rattle.std.proofs.Common.{◌∙◌}
use Rattle.status_report.proofs.WrittenLemmas.{lines_written, of_no_error}
use Rattle.status_report.proofs.written_lines.write_lines.Goals as goal

pub returns-in-Ok-write_flushed-clause-written : goal.returns-in-Ok-write_flushed-clause-written
returns-in-Ok-write_flushed-clause-written g c =
    let contents = g.W.Write.contents in
    let first = of_no_error c.write_prefix.result c.in_default-write_prefix.not-Err c.write_prefix.ensures.written in
    lines_written c.args.options.now c.args.state.now.state c.args.rows.now (contents c.args.writer.now) (contents c.write_prefix.new.writer)
    (contents c.write_flushed.new.writer) c.as_slice.result.now first c.in-Ok-write_flushed.ensures.written
    (c.as_slice.ensures.value ∙ c.in-Ok.ensures.lines)
