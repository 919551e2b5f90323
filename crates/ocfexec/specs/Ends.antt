-- How the program ends.
use Rattle.std.specs.Prelude.{◌≡◌, ℕ, List, Option, Result}
use Rattle.std.specs.Process.{exit_status}
use Rattle.std.specs.declared.process.ExitCode.{ExitCode}
use Rattle.exec_faults.specs.declared.fault.Fault.{Fault}
use Rattle.exec_host.specs.Asked.{System}
use Rattle.exec_program.specs.Program.{Does}
use Rattle.exec_program.specs.Starts.{status_of_end}

-- the program did what these arguments ask for, and this is the exit status of how it ended
abbrev pub EndsWith : System → Option (List ℕ) → List (List ℕ) → ExitCode → Type 0
EndsWith s named arguments code = (ended : Result ℕ Fault) × Does s named arguments ended × (exit_status code ≡ status_of_end ended)
