-- The identity of a process: proc(5), stat, pid and starttime.
use Rattle.std.specs.Prelude.{◌≡◌, List}
use Rattle.std.specs.List.{Any}
use Rattle.proc_files.specs.declared.process.Process.{Process}

-- two descriptions are of one process: a number may be used again, but then with a later start
pub record IsSame (p q : Process) : Type 0 where
  pub pid : p.pid ≡ q.pid
  pub start : p.start ≡ q.start

-- a process is among these
abbrev pub Has : List Process → Process → Type 0
Has processes p = Any (λ q. IsSame q p) processes
