use Rattle.std.proofs.Common.{ap}
use Rattle.exec_metrics.proofs.MetricsLemmas.{writes_opened}
use Rattle.exec_metrics.proofs.writing.write_measured.Goals as goal

pub returns-in-Ok-clause-written : goal.returns-in-Ok-clause-written
returns-in-Ok-clause-written g c =
    let view = g.D.Disk.view in
    let t = c.args.taken.now in
    writes_opened t.moment (g.W.Write.contents c.args.writer.now) (g.W.Write.contents c.write_metrics-ended.new.writer) t.measured.size
    t.measured.counts.entries t.measured.recorded.entries c.in-Ok.journal.position c.in-Ok.state.state (view c.args.disk) (view c.in-Ok.journal.disk)
    (view c.into_disk.result) c.write_metrics-ended.result c.in-Ok.ensures.opened c.requires.size c.requires.counts c.requires.recorded c.write_metrics-ended.ensures.written
    (ap view c.into_disk.ensures.value)
