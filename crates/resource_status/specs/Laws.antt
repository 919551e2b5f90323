-- What the condition of a resource never is.
use Rattle.std.specs.Prelude.{◌≡◌, ℕ, ◌<◌, ◌≤◌, Bool, true, false, ⊤, List, ◌∷◌, ◌++◌, Option, Some, None}
use Rattle.std.specs.List.{AllByRecursion}
use Rattle.ocf_types.specs.declared.action.Action.TheVariants as action
use Rattle.ocf_types.specs.declared.operation.Ended.{Ended}
use Rattle.ocf_types.specs.declared.outcome.Outcome.TheVariants.{Run}
use Rattle.ocf_types.specs.declared.outcome.RunEnd.TheVariants.{Done}
use Rattle.resource_status.specs.Conditions.{condition_by, given_up, is_bad, is_stop, known_of, written_by}
use Rattle.resource_status.specs.declared.condition.Condition.{Condition}
use Rattle.resource_status.specs.declared.condition.Recorded.{Recorded}

-- what these results hold of a resource, whether or not there may be earlier ones
abbrev pub recorded_by : Bool → List Ended → Recorded
recorded_by cut es = record { known = known_of es; cut = cut }

-- a start that succeeded
abbrev pub IsStarted : Ended → Type 0
IsStarted e = (e.action ≡ action.Start) × (e.outcome ≡ Run (Done 0))

-- a result shows no condition, or a good one, of no earlier run than this
abbrev pub ShowsGood : ℕ → ℕ → Option Condition → Type 0
ShowsGood from run None = ⊤
ShowsGood from run (Some c) = (is_bad c ≡ false) × (from ≤ run)

abbrev pub IsGoodAfter : Ended → Ended → Type 0
IsGoodAfter e x = ShowsGood e.run x.run (written_by x.action x.outcome)

-- the last failure is of an earlier run than this
abbrev pub IsOver : ℕ → Option Ended → Type 0
IsOver run None = ⊤
IsOver run (Some f) = f.run < run

-- a resource that was started, and of which nothing failed since, is neither failed nor unknown
abbrev pub StartedIsWell : Type 0
StartedIsWell = (cut : Bool) (before later : List Ended) (e : Ended) (failed : Option Ended)
    → IsStarted e → AllByRecursion (IsGoodAfter e) later → IsOver e.run failed
    → is_bad (condition_by (recorded_by cut (before ++ e ∷ later)) failed) ≡ false

-- a result shows a bad condition; and, the second one, none
abbrev pub ShowsBad : Option Condition → Type 0
ShowsBad None = ⊥
ShowsBad (Some c) = is_bad c ≡ true

abbrev pub ShowsNone : Ended → Type 0
ShowsNone x = written_by x.action x.outcome ≡ None

-- a resource whose last result that shows a condition is one of a start, a stop or another action that failed or was cut off, is failed or
-- unknown: neither started nor stopped
abbrev pub FailedIsBad : Type 0
FailedIsBad = (cut : Bool) (before later : List Ended) (e : Ended) (failed : Option Ended)
    → ShowsBad (written_by e.action e.outcome) → AllByRecursion ShowsNone later
    → is_bad (condition_by (recorded_by cut (before ++ e ∷ later)) failed) ≡ true

-- a result does not show that the resource runs
abbrev pub ShowsDown : Option Condition → Type 0
ShowsDown None = ⊤
ShowsDown (Some c) = is_bad (given_up c) ≡ true

abbrev pub IsDown : Ended → Type 0
IsDown x = ShowsDown (written_by x.action x.outcome)

-- a resource that failed in a run, by an action other than a stop, and that no result shows running since, is failed or unknown, whatever was
-- done since
abbrev pub DownIsBad : Type 0
DownIsBad = (cut : Bool) (before later : List Ended) (e f : Ended)
    → ShowsBad (written_by e.action e.outcome) → 0 < e.run → AllByRecursion (λ x. x.run < e.run) before → AllByRecursion IsDown later
    → e.run ≤ f.run → is_stop f.action ≡ false
    → is_bad (condition_by (recorded_by cut (before ++ e ∷ later)) (Some f)) ≡ true
