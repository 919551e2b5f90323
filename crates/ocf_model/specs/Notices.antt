-- Notices: results as they are reported, each with what was expected of its action.
use Rattle.std.specs.Prelude.{ℕ, List, Option, Some, if◌then◌else◌}
use Rattle.ocf_types.specs.Expected.{is_failure}
use Rattle.ocf_model.specs.Resource.{dropped_of, ended_of}
use Rattle.ocf_types.specs.declared.operation.Ended.{Ended}
use Rattle.ocf_types.specs.declared.operation.Op.{Op}
use Rattle.ocf_types.specs.declared.operation.Running.{Running}
use Rattle.ocf_types.specs.declared.outcome.Outcome.{Outcome}
use Rattle.ocf_types.specs.declared.notice.Notice.{Notice}

-- the notice of a run that ended at a moment
abbrev pub run_notice : List ℕ → Outcome → ℕ → Running → Notice
run_notice id outcome at x = record { id = id; result = ended_of outcome at x; expect = x.task.check.expect }

-- the notice of a queued action that was dropped
abbrev pub drop_notice : List ℕ → ℕ → Op → Notice
drop_notice id at o = record { id = id; result = dropped_of at o; expect = o.task.check.expect }

-- the last failure after a notice: its result if it is a failure, else the one before
abbrev pub last_failure : Notice → Option Ended → Option Ended
last_failure n before = if is_failure n then Some n.result else before
