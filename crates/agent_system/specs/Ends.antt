-- How the system's answers about an agent process are reported.
use Rattle.std.specs.Prelude.{◌≡◌, Option, Some, None, Result, Ok, Err, ℤ, pos, unwrap_or}
use Rattle.std.specs.Process.{exit_code, exit_signal}
use Rattle.std.specs.declared.io.Error.{Error}
use Rattle.std.specs.declared.io.ErrorKind.{ErrorKind}
use Rattle.std.specs.declared.io.ErrorKind.TheVariants.{NotFound, PermissionDenied}
use Rattle.std.specs.declared.process.ExitStatus.{ExitStatus}
use Rattle.ocf_types.specs.declared.outcome.StartFault.{StartFault}
use Rattle.ocf_types.specs.declared.outcome.StartFault.TheVariants.{Missing, Denied, Other}
use Rattle.child_model.specs.declared.answer.Poll.{Poll}
use Rattle.child_model.specs.declared.answer.Poll.TheVariants.{Running, Exited, Signaled, Fault}

-- why an agent was not spawned, by the kind of the system's error
abbrev pub start_fault : ErrorKind → StartFault
start_fault NotFound = Missing
start_fault PermissionDenied = Denied
start_fault _ = Other

-- the number of the signal that ended a process, as signal(7) numbers them; 0 where the system names none
abbrev pub signal_of : ExitStatus → ℤ
signal_of status = unwrap_or (exit_signal status) (pos 0)

-- the report of an end by its status: its exit code, or where it has none the signal that ended the process
abbrev pub ReportsEnd : Poll → ExitStatus → Type 0
ReportsEnd (Exited code) status = exit_code status ≡ Some (pos code)
ReportsEnd (Signaled signal) status = (exit_code status ≡ None) × (signal_of status ≡ pos signal)
ReportsEnd _ status = ⊥

-- the result of a poll by the system's answer
abbrev pub IsPollOf : Poll → Result (Option ExitStatus) Error → Type 0
IsPollOf answer (Ok None) = answer ≡ Running
IsPollOf answer (Ok (Some status)) = ReportsEnd answer status
IsPollOf answer (Err error) = answer ≡ Fault
