use Rattle.std.proofs.Common.{sym, subst}
use Rattle.disk_model.specs.Image.{Image}
use Rattle.exec_journal.proofs.Openings.{opens_on, unwritten_opens}
use Rattle.exec_journal.specs.Found.{FoundAs}
use Rattle.journal_log.specs.RanOn.{HasCounts}
use Rattle.journal_log.specs.RecordedOn.{HasRecorded}
use Rattle.journal_log.specs.Sizes.{IsSize}
use Rattle.exec_metrics.specs.Metrics.{WritesAs}
use Rattle.exec_metrics.proofs.writing.metrics.Goals as goal

pub write_measured-requires-clause-size : goal.write_measured-requires-clause-size
write_measured-requires-clause-size g c = λ honest.
    subst (λ (i : Image). IsSize i c.in-Ok.measured.size) (sym (c.measure.ensures.only_reads.unwritten.same honest)) (c.in-Ok.ensures.size honest)

pub write_measured-requires-clause-counts : goal.write_measured-requires-clause-counts
write_measured-requires-clause-counts g c = λ honest s found.
    let same = c.measure.ensures.only_reads.unwritten.same honest in
    subst (λ (i : Image). HasCounts i c.in-Ok.measured.counts.entries) (sym same)
    (c.in-Ok.ensures.counts honest s (subst (λ (i : Image). FoundAs s i) same found))

pub write_measured-requires-clause-recorded : goal.write_measured-requires-clause-recorded
write_measured-requires-clause-recorded g c = λ honest s found.
    let same = c.measure.ensures.only_reads.unwritten.same honest in
    subst (λ (i : Image). HasRecorded i c.in-Ok.measured.recorded.entries) (sym same)
    (c.in-Ok.ensures.recorded honest s (subst (λ (i : Image). FoundAs s i) same found))

pub returns-in-Ok-clause-written : goal.returns-in-Ok-clause-written
returns-in-Ok-clause-written g c = λ honest.
    let h1 = c.write_measured.ensures.opens.crash.passed.honest honest in
    let contents = g.W.Write.contents in
    subst (λ (i : Image). WritesAs i c.args.moment (contents c.args.writer.now) (contents c.write_measured.new.writer) c.write_measured.result.1)
    (c.measure.ensures.only_reads.unwritten.same h1) (c.write_measured.ensures.written honest)

pub returns-in-Ok-clause-opens : goal.returns-in-Ok-clause-opens
returns-in-Ok-clause-opens g c =
    opens_on (g.D.Disk.view c.args.disk) (g.D.Disk.view c.measure.new.disk) (g.D.Disk.view c.write_measured.result.0)
    (g.met.D.Disk.lawful c.args.disk) c.measure.ensures.only_reads.unwritten c.write_measured.ensures.opens

pub returns-in-Err-Disk-clause-opens : goal.returns-in-Err-Disk-clause-opens
returns-in-Err-Disk-clause-opens g c =
    unwritten_opens (g.D.Disk.view c.args.disk) (g.D.Disk.view c.measure.new.disk) (g.met.D.Disk.lawful c.args.disk)
    c.measure.ensures.only_reads.unwritten

pub returns-in-Err-Memory-clause-opens : goal.returns-in-Err-Memory-clause-opens
returns-in-Err-Memory-clause-opens g c =
    unwritten_opens (g.D.Disk.view c.args.disk) (g.D.Disk.view c.measure.new.disk) (g.met.D.Disk.lawful c.args.disk)
    c.measure.ensures.only_reads.unwritten
