use Rattle.std.proofs.Common.{Err, ap, sym, subst}
use Rattle.exec_faults.specs.declared.fault.Fault.{Fault}
use Rattle.status_report.specs.Endings.{WritesAs}
use Rattle.status_report.proofs.WrittenLemmas.{quiet, writes_opened, writes_unopened}
use Rattle.status_report.proofs.statuses.write_opened.Goals as goal

pub returns-in-Ok-clause-written : goal.returns-in-Ok-clause-written
returns-in-Ok-clause-written g c =
    let view = g.D.Disk.view in
    let contents = g.W.Write.contents in
    writes_opened c.args.options.now c.args.recorded.now.entries (contents c.args.writer.now) (contents c.write_status-ended.new.writer)
    c.in-Ok.journal.position c.in-Ok.state.state (view c.args.disk) (view c.in-Ok.journal.disk) (view c.into_disk.result)
    c.write_status-ended.result c.in-Ok.ensures.opened c.requires.recorded c.write_status-ended.ensures.written (ap view c.into_disk.ensures.value)

pub returns-in-Ok-clause-ends : goal.returns-in-Ok-clause-ends
returns-in-Ok-clause-ends g c =
    let contents = g.W.Write.contents in
    (quiet c.args.options.now c.in-Ok.state.state c.args.recorded.now.entries (contents c.args.writer.now) (contents c.write_status-ended.new.writer)
    c.write_status-ended.result c.write_status-ended.ensures.written).0

pub returns-in-Ok-clause-cause : goal.returns-in-Ok-clause-cause
returns-in-Ok-clause-cause g c = λ is.
    let contents = g.W.Write.contents in
    let none = (quiet c.args.options.now c.in-Ok.state.state c.args.recorded.now.entries (contents c.args.writer.now)
    (contents c.write_status-ended.new.writer) c.write_status-ended.result c.write_status-ended.ensures.written).1 in
    absurd (none is)

pub returns-in-Err-clause-written : goal.returns-in-Err-clause-written
returns-in-Err-clause-written g c = λ honest.
    let view = g.D.Disk.view in
    let contents = g.W.Write.contents c.args.writer.now in
    subst (λ (f : Fault). WritesAs (view c.args.disk).reads c.args.options.now contents contents (Err f)) (sym c.from.ensures)
    (writes_unopened c.args.options.now contents c.in-Err.fault (view c.args.disk) (view c.in-Err.disk) c.in-Err.ensures.failed honest)
