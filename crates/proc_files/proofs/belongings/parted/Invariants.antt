use Rattle.std.proofs.Common.{take}
use Rattle.proc_files.specs.Belongings.{IsParted}
use Rattle.proc_files.proofs.belongings.parted.Given as goal

abbrev pub invariant-loop-process : goal.invariant-loop-process
invariant-loop-process g l = IsParted (take l.process-index l.table) l.known l.groups l.roots.items l.others.items
