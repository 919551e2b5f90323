use Rattle.std.proofs.Common.{inl, inr, refl, sym, subst}
use Rattle.disk_model.specs.Image.{Image}
use Rattle.exec_journal.proofs.Openings.{opens_on, unwritten_opens}
use Rattle.exec_journal.specs.Found.{FoundAs}
use Rattle.journal_log.specs.RecordedOn.{HasRecorded}
use Rattle.status_report.specs.Endings.{WritesAs}
use Rattle.status_report.proofs.statuses.status.Goals as goal

pub write_opened-requires : goal.write_opened-requires
write_opened-requires g c = record {
  recorded = λ honest s found.
      let same = c.measure.ensures.only_reads.unwritten.same honest in
      subst (λ (i : Image). HasRecorded i c.in-Ok.measured.recorded.entries) (sym same)
      (c.in-Ok.ensures.recorded honest s (subst (λ (i : Image). FoundAs s i) same found));
}

pub returns-in-Ok-clause-written : goal.returns-in-Ok-clause-written
returns-in-Ok-clause-written g c = λ honest.
    let h1 = c.write_opened.ensures.opens.crash.passed.honest honest in
    let contents = g.W.Write.contents in
    subst
    (λ (i : Image). WritesAs i c.args.options.now (contents c.args.writer.now) (contents c.write_opened.new.writer) c.write_opened.result.1)
    (c.measure.ensures.only_reads.unwritten.same h1) (c.write_opened.ensures.written honest)

pub returns-in-Ok-clause-opens : goal.returns-in-Ok-clause-opens
returns-in-Ok-clause-opens g c =
    opens_on (g.D.Disk.view c.args.disk) (g.D.Disk.view c.measure.new.disk) (g.D.Disk.view c.write_opened.result.0)
    (g.met.D.Disk.lawful c.args.disk) c.measure.ensures.only_reads.unwritten c.write_opened.ensures.opens

pub returns-in-Err-Disk-clause-written : goal.returns-in-Err-Disk-clause-written
returns-in-Err-Disk-clause-written g c = λ honest. inl (refl, inl refl)

pub returns-in-Err-Disk-clause-opens : goal.returns-in-Err-Disk-clause-opens
returns-in-Err-Disk-clause-opens g c =
    unwritten_opens (g.D.Disk.view c.args.disk) (g.D.Disk.view c.measure.new.disk) (g.met.D.Disk.lawful c.args.disk)
    c.measure.ensures.only_reads.unwritten

pub returns-in-Err-Memory-clause-written : goal.returns-in-Err-Memory-clause-written
returns-in-Err-Memory-clause-written g c = λ honest. inl (refl, inr (inl refl))

pub returns-in-Err-Memory-clause-opens : goal.returns-in-Err-Memory-clause-opens
returns-in-Err-Memory-clause-opens g c =
    unwritten_opens (g.D.Disk.view c.args.disk) (g.D.Disk.view c.measure.new.disk) (g.met.D.Disk.lawful c.args.disk)
    c.measure.ensures.only_reads.unwritten
