use Rattle.std.proofs.Common.{◌<◌, [], rules}
use Rattle.disk_model.specs.Disk.{LAST}
use Rattle.file_disk.specs.FileDisk.{view_of}
use Rattle.file_disk.specs.RecordLemmas.{called_refused, unwritten_refused, unwritten_failed, unwritten_synced}
use Rattle.file_disk.proofs.disk.FileDiskDisk.sync.Goals as goal

pub returns-then-not-goes_on-clause-unwritten : goal.returns-then-not-goes_on-clause-unwritten
returns-then-not-goes_on-clause-unwritten g c = unwritten_refused [] _ _ c.fail.ensures

pub returns-then-not-goes_on-clause-called : goal.returns-then-not-goes_on-clause-called
returns-then-not-goes_on-clause-called g c = called_refused _ [] _ _ c.fail.ensures

pub returns-in-Ok-clause-unwritten : goal.returns-in-Ok-clause-unwritten
returns-in-Ok-clause-unwritten g c =
    let unspent : (view_of c.args.self.now).clock < LAST = search rules in
    unwritten_synced c.args.part [] _ _ c.pass.ensures unspent

pub returns-in-Err-clause-unwritten : goal.returns-in-Err-clause-unwritten
returns-in-Err-clause-unwritten g c =
    let unspent : (view_of c.args.self.now).clock < LAST = search rules in
    unwritten_failed [] _ _ c.fail-in-Err.ensures.noted unspent
