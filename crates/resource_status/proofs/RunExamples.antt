-- The runs of a list of events, computed on examples.
use Rattle.std.proofs.Common.{◌≡◌, ℕ, List, [], ◌∷◌, true, false, Some, refl}
use Rattle.std.specs.Prelude.{codes}
use Rattle.ocf_types.specs.Kinds.{Change, Event, Step}
use Rattle.ocf_model.specs.Resource.{Resource, no_history}
use Rattle.ocf_model.specs.State.{State, state_of}
use Rattle.ocf_types.specs.declared.action.Level.TheVariants.{Zero}
use Rattle.ocf_types.specs.declared.action.Task.{Task}
use Rattle.ocf_types.specs.Actions.{plain, task}
use Rattle.ocf_types.specs.declared.action.Action.TheVariants.{Start, Monitor}
use Rattle.ocf_types.specs.declared.event.Change.TheVariants as change
use Rattle.ocf_types.specs.declared.event.Step.TheVariants as step
use Rattle.ocf_types.specs.declared.expect.Expect.TheVariants.{NotRunning}
use Rattle.ocf_types.specs.declared.operation.Running.{Running}
use Rattle.ocf_types.specs.declared.outcome.RunEnd.{RunEnd}
use Rattle.ocf_types.specs.declared.outcome.RunEnd.TheVariants.{Done, TimedOut}
use Rattle.resource_status.specs.Counts.{tally}
use Rattle.resource_status.specs.Runs.{Ran, ran_as, runs_since}

abbrev web : List ℕ
web = codes "web"

abbrev db : List ℕ
db = codes "db"

-- the running actions: a probe, which expects that its resource does not run, and a start
abbrev probe : Task
probe = task Monitor (record { level = Zero; expect = NotRunning })

abbrev runs : ℕ → Task → Running
runs run what = record { call = run; run = run; task = what; timeout = 20000; interval = 0; since = 1000 }

abbrev resource : Running → Resource
resource x = record {
  provider = codes "heartbeat";
  agent = codes "nginx";
  params = [];
  history = record no_history { running = Some x };
  recurring = [];
}

abbrev first : State
first = state_of 3 3 1000 ((web, resource (runs 1 probe)) ∷ (db, resource (runs 2 (task Start plain))) ∷ [])

abbrev at : ℕ → Change → Event
at moment what = record { at = moment; change = what }

abbrev result : List ℕ → ℕ → RunEnd → Change
result id run end = change.Step id (step.Result run end)

-- the runs of these changes
abbrev ran : List Change → List Ran
ran [] = runs_since first [] []
ran (a ∷ []) = runs_since first [] (at 2000 a ∷ [])
ran (a ∷ b ∷ []) = runs_since first [] (at 2000 a ∷ at 3000 b ∷ [])
ran (a ∷ b ∷ c ∷ more) = runs_since first [] (at 2000 a ∷ at 3000 b ∷ at 4000 c ∷ [])

-- the probe finds what it expects, or finds its resource running
expected : ran (result web 1 (Done 7) ∷ []) ≡ ran_as web false ∷ []
expected = refl

unexpected : ran (result web 1 (Done 0) ∷ []) ≡ ran_as web true ∷ []
unexpected = refl

-- the same code fails a start, and so does a timeout
failed : ran (result db 2 (Done 7) ∷ result web 1 TimedOut ∷ []) ≡ ran_as db true ∷ ran_as web true ∷ []
failed = refl

-- a boot interrupts the running actions, which have not failed
interrupted : ran (result db 2 (Done 0) ∷ change.Boot ∷ []) ≡ ran_as db false ∷ ran_as web false ∷ []
interrupted = refl

-- an unregister removes only the runs of its own resource
unregistered : ran (result db 2 (Done 1) ∷ result web 1 (Done 0) ∷ change.Unregister db ∷ []) ≡ ran_as web true ∷ []
unregistered = refl

-- the counts of two runs of one resource, and of a resource that never ran
counts : tally (ran_as web true ∷ ran_as db false ∷ ran_as web false ∷ []) web ≡ record { runs = 2; failures = 1 }
counts = refl

none : tally (ran_as web true ∷ []) (codes "we") ≡ record { runs = 0; failures = 0 }
none = refl
