use Rattle.std.proofs.Common.{[]}
use Rattle.file_disk.specs.RecordLemmas.{called_refused}
use Rattle.file_disk.proofs.disk.FileDiskDisk.write_at.Goals as goal

pub returns-then-not-goes_on-clause-called : goal.returns-then-not-goes_on-clause-called
returns-then-not-goes_on-clause-called g c = called_refused _ [] _ _ c.fail.ensures
