use Rattle.std.proofs.Common.{◌<◌, [], rules}
use Rattle.disk_model.specs.Disk.{LAST}
use Rattle.file_disk.specs.RamDisk.{view_of}
use Rattle.file_disk.specs.RecordLemmas.{called_refused, unwritten_refused, unwritten_measured}
use Rattle.file_disk.proofs.ram.RamDiskDisk.len.Goals as goal

pub returns-then-not-goes_on-clause-unwritten : goal.returns-then-not-goes_on-clause-unwritten
returns-then-not-goes_on-clause-unwritten g c = unwritten_refused [] _ _ c.fail.ensures

pub returns-then-not-goes_on-clause-called : goal.returns-then-not-goes_on-clause-called
returns-then-not-goes_on-clause-called g c = called_refused _ [] _ _ c.fail.ensures

pub returns-clause-unwritten : goal.returns-clause-unwritten
returns-clause-unwritten g c =
    let unspent : (view_of c.args.self.now).clock < LAST = search rules in
    unwritten_measured c.args.part _ [] _ _ c.pass.ensures unspent
