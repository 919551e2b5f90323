-- Conditions of resources, computed on examples.
use Rattle.std.proofs.Common.{◌≡◌, ℕ, ◌*◌, true, false, List, [], ◌∷◌, ◌++◌, Option, Some, None, refl}
use Rattle.std.specs.Prelude.{replicate}
use Rattle.ocf_model.specs.Resource.{History}
use Rattle.ocf_types.specs.declared.action.Action.{Action}
use Rattle.ocf_types.specs.declared.action.Action.TheVariants as action
use Rattle.ocf_types.specs.declared.operation.Ended.{Ended}
use Rattle.ocf_types.specs.declared.outcome.Outcome.{Outcome}
use Rattle.ocf_types.specs.declared.outcome.Outcome.TheVariants.{Run, Interrupted, Dropped, Cancelled}
use Rattle.ocf_types.specs.declared.outcome.RunEnd.TheVariants.{Done, TimedOut, Signaled, Lost, NotStarted}
use Rattle.ocf_types.specs.declared.outcome.StartFault.TheVariants.{Missing}
use Rattle.resource_status.specs.Conditions.{condition_of, held_in, known_of, since_by}
use Rattle.resource_status.specs.declared.condition.Condition.{Condition}
use Rattle.resource_status.specs.declared.condition.Condition.TheVariants.{NeverRun, Started, Promoted, Stopped, Failed, Unknown}
use Rattle.resource_status.specs.declared.condition.Since.{Since}

-- the result of run n of an action, which ended at n seconds
abbrev result : ℕ → Action → Outcome → Ended
result n a outcome = record { call = n; run = n; action = a; interval = 0; since = 0; at = n * 1000; outcome = outcome }

abbrev code : ℕ → Outcome
code n = Run (Done n)

-- a history of these results, of which this failed last
abbrev history : List Ended → Option Ended → History
history es failed = record { queue = []; running = None; ended = es; failed = failed }

-- the condition by these results, none of which is a failure
abbrev well : List Ended → Condition
well es = condition_of (history es None)

-- the condition by these results and a last one, which is a failure
abbrev ill : List Ended → Ended → Condition
ill es e = condition_of (history (es ++ e ∷ []) (Some e))

started : List Ended
started = result 1 action.Start (code 0) ∷ []

without_result : (well [] ≡ NeverRun) × (well (result 0 action.Start Dropped ∷ []) ≡ NeverRun)
    × (well (result 1 action.ValidateAll (code 0) ∷ []) ≡ NeverRun) × (well (replicate 16 (result 0 action.Start Cancelled)) ≡ Unknown)
without_result = (refl, refl, refl, refl)

ends : (well started ≡ Started) × (well (started ++ result 2 action.Promote (code 0) ∷ []) ≡ Promoted)
    × (well (result 1 action.Demote (code 0) ∷ []) ≡ Started) × (well (started ++ result 2 action.Stop (code 0) ∷ []) ≡ Stopped)
unfolding started
ends = (refl, refl, refl, refl)

monitors : (well (result 1 action.Monitor (code 0) ∷ []) ≡ Started) × (well (result 1 action.Monitor (code 7) ∷ []) ≡ Stopped)
    × (well (result 1 action.Monitor (code 8) ∷ []) ≡ Promoted) × (well (result 1 action.Monitor (code 190) ∷ []) ≡ Started)
    × (well (result 1 action.Monitor (code 191) ∷ []) ≡ Promoted)
monitors = (refl, refl, refl, refl, refl)

-- failures, also of a resource that a monitor found stopped and that should run
failures : (ill started (result 2 action.Monitor (code 7)) ≡ Failed) × (ill started (result 2 action.Stop (code 1)) ≡ Failed)
    × (ill started (result 2 action.Promote (Run Signaled)) ≡ Failed) × (ill [] (result 1 action.Start (Run (NotStarted Missing))) ≡ Failed)
    × (ill started (result 2 action.ReloadAgent (code 6)) ≡ Failed) × (ill started (result 2 action.Monitor (code 9)) ≡ Failed)
unfolding started
failures = (refl, refl, refl, refl, refl, refl)

-- actions that were cut off
cut_off : (ill started (result 2 action.Stop (Run TimedOut)) ≡ Unknown) × (ill started (result 2 action.Monitor (Run Lost)) ≡ Unknown)
    × (well (started ++ result 2 action.Stop Interrupted ∷ []) ≡ Unknown) × (well (started ++ result 2 action.Monitor Interrupted ∷ []) ≡ Started)
unfolding started
cut_off = (refl, refl, refl, refl)

-- the condition after a failure, which these results follow
abbrev then : Ended → List Ended → Condition
then e es = condition_of (history (started ++ e ∷ es) (Some e))

-- a resource that failed and was stopped has failed, until it runs again; a stop that failed is over with one that succeeds
stopped : (then (result 2 action.Monitor (code 7)) (result 3 action.Stop (code 0) ∷ []) ≡ Failed)
    × (then (result 2 action.Start (code 1)) (result 3 action.Monitor (code 7) ∷ []) ≡ Failed)
    × (then (result 2 action.Monitor (code 7)) (result 3 action.Start (code 0) ∷ result 4 action.Stop (code 0) ∷ []) ≡ Stopped)
    × (then (result 2 action.Monitor (code 7)) (result 3 action.Monitor (code 0) ∷ result 4 action.Stop (code 0) ∷ []) ≡ Stopped)
    × (then (result 2 action.Stop (code 1)) (result 3 action.Stop (code 0) ∷ []) ≡ Stopped)
unfolding started
stopped = (refl, refl, refl, refl, refl)

-- an action that never began changes nothing, and a failure is over once a later result shows another condition
over : (well (started ++ result 0 action.Stop Dropped ∷ []) ≡ Started)
    × (condition_of (history (result 1 action.Start (code 1) ∷ result 2 action.Start (code 0) ∷ []) (Some (result 1 action.Start (code 1)))) ≡ Started)
unfolding started
over = (refl, refl)

-- since the first of the results at the end that all show the same condition
since_first : known_of (started ++ result 2 action.Monitor (code 0) ∷ result 0 action.Stop Cancelled ∷ result 9 action.Monitor (code 0) ∷ [])
    ≡ Some (record { condition = Started; since = 1000; run = 9; up = 9; changed = false })
unfolding started
since_first = refl

since_change : known_of (started ++ result 2 action.Monitor (code 7) ∷ result 9 action.Monitor (code 7) ∷ [])
    ≡ Some (record { condition = Stopped; since = 2000; run = 9; up = 1; changed = true })
unfolding started
since_change = refl

-- a resource that failed and was then stopped has failed since the failure; one that a monitor found stopped since the first that did
abbrev since_then : Ended → List Ended → Option Since
since_then e es = since_by (held_in (history (started ++ e ∷ es) (Some e))) (Some e)

since_failure : (since_then (result 2 action.Start (code 1)) (result 5 action.Stop (code 0) ∷ []) ≡ Some (record { moment = 2000; at_least = false }))
    × (since_then (result 2 action.Monitor (code 7)) (result 5 action.Stop (code 0) ∷ []) ≡ Some (record { moment = 2000; at_least = false }))
    × (since_then (result 2 action.Stop (code 1)) (result 5 action.Stop (code 0) ∷ []) ≡ Some (record { moment = 5000; at_least = false }))
    × (since_then (result 2 action.Start (code 1)) (result 5 action.Start (code 0) ∷ []) ≡ Some (record { moment = 5000; at_least = false }))
unfolding started
since_failure = (refl, refl, refl, refl)
