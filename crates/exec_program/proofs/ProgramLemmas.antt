-- What the program does.
use Rattle.std.proofs.Common.{◌≡◌, ℕ, IfErr, List, [], Option, Result, Ok, inl, inr, refl, subst, sym}
use Rattle.std.specs.declared.alloc.Global.{Global}
use Rattle.file_disk.specs.RamDisk.{IsFresh, view_of}
use Rattle.file_disk.specs.declared.ram.RamDisk.{RamDisk}
use Rattle.exec_options.specs.Arguments.{AsksFor}
use Rattle.exec_options.specs.declared.once.OnceOptions.{OnceOptions}
use Rattle.exec_options.specs.declared.options.JournalLocation.{JournalLocation}
use Rattle.exec_options.specs.declared.options.JournalLocation.TheVariants.{Memory}
use Rattle.exec_options.specs.declared.options.Options.{Options}
use Rattle.exec_options.specs.declared.arguments.Wanted.{Wanted}
use Rattle.exec_options.specs.declared.arguments.Wanted.TheVariants as wanted
use Rattle.exec_faults.specs.Faults.{HasCause}
use Rattle.exec_faults.specs.declared.fault.Fault.{Fault}
use Rattle.exec_host.specs.Asked.{System}
use Rattle.exec_program.specs.Program.{Does, RunsAt}
use Rattle.exec_program.specs.Runs.{RunsOn}

-- a session over a fresh disk in memory
pub runs_in_memory : (s : System) (o : Options) (log : s.Log) (location : JournalLocation) (disk left : RamDisk Global) (ended : Result Unit Fault)
    → location ≡ Memory → IsFresh (record { a = []; b = [] }) disk → RunsOn s view_of o log disk left ended → IfErr ended (HasCause s.refuses)
    → RunsAt s o log location ended
runs_in_memory s o log location disk left ended is fresh runs cause =
    subst (λ (x : JournalLocation). RunsAt s o log x ended) (sym is) (disk, left, fresh, runs, cause)

-- an action that was run once
pub does_once : (s : System) (named : Option (List ℕ)) (arguments : List (List ℕ)) (w : Wanted) (o : OnceOptions) (status : ℕ)
    → AsksFor named arguments w → w ≡ wanted.Once o → s.asked.once o status → Does s named arguments (Ok status)
does_once s named arguments w o status asks is ran =
    inr (inl (o, subst (λ (x : Wanted). AsksFor named arguments x) is asks, (status, ran, refl)))
