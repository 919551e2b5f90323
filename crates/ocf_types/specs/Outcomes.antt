-- The table of outcomes: what lines, journals and reports say of each.
use Rattle.std.specs.Prelude.{ℕ, List, codes, Bool, true, false, Option, Some, None}
use Rattle.ocf_types.specs.declared.outcome.StartFault.TheVariants.{Missing, Denied, Other}
use Rattle.ocf_types.specs.declared.outcome.RunEnd.TheVariants.{Done, TimedOut, Signaled, Lost, NotStarted}
use Rattle.ocf_types.specs.declared.outcome.Outcome.{Outcome}
use Rattle.ocf_types.specs.declared.outcome.Outcome.TheVariants.{Run, Interrupted, Dropped, Cancelled}

-- a row of the table: the word of an outcome; its exit code, the agent's own or one for the reason why there is none; the kind
-- and the detail by which it is encoded; whether it is a failure, and what it means, which are None where the exit code decides
pub record OutcomeRow : Type 0 where
  pub word : List ℕ
  pub code : ℕ
  pub kind : ℕ
  pub detail : ℕ
  pub failed : Option Bool
  pub meaning : Option (List ℕ)

-- the table. OCF Resource Agent API 1.1, exit codes: OCF_ERR_INSTALLED for a missing file, OCF_ERR_PERM for one that may not be
-- executed, and otherwise OCF_ERR_GENERIC. An interrupted action is no failure, since its result is not known; a dropped or
-- cancelled one is none, since it never began
abbrev pub outcome_row : Outcome → OutcomeRow
outcome_row (Run (Done code)) = record { word = codes "done"; code = code; kind = 1; detail = code; failed = None; meaning = None }
outcome_row (Run TimedOut) =
    record { word = codes "timed-out"; code = 1; kind = 2; detail = 0; failed = Some true; meaning = Some (codes "failed: it ran past its timeout and was killed") }
outcome_row (Run Signaled) =
    record { word = codes "signaled"; code = 1; kind = 3; detail = 0; failed = Some true; meaning = Some (codes "failed: a signal ended the agent") }
outcome_row (Run Lost) =
    record { word = codes "lost"; code = 1; kind = 4; detail = 0; failed = Some true; meaning = Some (codes "failed: how the agent ended is not known") }
outcome_row (Run (NotStarted Missing)) =
    record { word = codes "not-started"; code = 5; kind = 5; detail = 1; failed = Some true; meaning = Some (codes "failed: the agent's file is missing") }
outcome_row (Run (NotStarted Denied)) =
    record { word = codes "not-started"; code = 4; kind = 5; detail = 2; failed = Some true; meaning = Some (codes "failed: the agent's file may not be run") }
outcome_row (Run (NotStarted Other)) =
    record { word = codes "not-started"; code = 1; kind = 5; detail = 3; failed = Some true; meaning = Some (codes "failed: the agent could not be started") }
outcome_row Interrupted =
    record { word = codes "interrupted"; code = 1; kind = 6; detail = 0; failed = Some false; meaning = Some (codes "interrupted: the executor ended while it ran; it may be done or not") }
outcome_row Dropped =
    record { word = codes "dropped"; code = 1; kind = 7; detail = 0; failed = Some false; meaning = Some (codes "dropped: the executor ended before it began") }
outcome_row Cancelled =
    record { word = codes "cancelled"; code = 1; kind = 8; detail = 0; failed = Some false; meaning = Some (codes "cancelled: it was withdrawn before it began") }

-- the word of an outcome
abbrev pub outcome_word : Outcome → List ℕ
outcome_word o = (outcome_row o).word

-- the exit code of an outcome
abbrev pub outcome_code : Outcome → ℕ
outcome_code o = (outcome_row o).code
