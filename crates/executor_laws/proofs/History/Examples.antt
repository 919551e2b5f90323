-- The order of events, computed on lists that break it.
use Rattle.std.proofs.Common.{◌≡◌, ℕ, true, false, List, [], ◌∷◌, filter, length, inl, inr, refl, arith}
use Rattle.std.specs.Prelude.{codes}
use Rattle.ocf_types.specs.Kinds.{Event}
use Rattle.ocf_model.specs.State.{empty}
use Rattle.ocf_types.specs.Actions.{plain, task}
use Rattle.ocf_types.specs.declared.action.Action.TheVariants.{Start}
use Rattle.ocf_types.specs.declared.outcome.RunEnd.TheVariants.{Done}
use Rattle.ocf_types.specs.declared.event.Change.TheVariants as change
use Rattle.ocf_types.specs.declared.event.Step.TheVariants as step
use Rattle.executor_laws.specs.Histories.{BeginInOrder, EndsBetween, RunsAscend, interruptions, is_of}

abbrev pub r1 : List ℕ
r1 = codes "r1"

abbrev pub registered : Event
registered = record { at = 0; change = change.Register (record { id = r1; provider = codes "pacemaker"; agent = codes "Dummy"; params = [] }) }

abbrev pub asked : ℕ → Event
asked call = record { at = 0; change = change.Step r1 (step.Exec (record { call = call; task = task Start plain; timeout = 20000 })) }

abbrev pub begins : ℕ → ℕ → Event
begins call run = record { at = 10; change = change.Step r1 (step.Begin call run) }

abbrev pub ended : ℕ → Event
ended run = record { at = 20; change = change.Step r1 (step.Result run (Done 0)) }

abbrev pub boot : Event
boot = record { at = 30; change = change.Boot }

-- a start that is begun twice under one run number
double_start : RunsAscend empty (registered ∷ asked 1 ∷ begins 1 1 ∷ begins 1 1 ∷ []) → ⊥
double_start h = let less = h.1.0.0 in omega (arith, less)

-- two starts at once, each under a run number of its own
two_at_once : EndsBetween (registered ∷ asked 1 ∷ asked 2 ∷ begins 1 1 ∷ begins 2 2 ∷ []) → ⊥
two_at_once h =
    let bad : false ≡ true = h (registered ∷ asked 1 ∷ asked 2 ∷ []) [] [] (begins 1 1) (begins 2 2) r1 1 1 2 2 refl refl refl in cc

-- the second action before the first
overtaken : BeginInOrder empty r1 (registered ∷ asked 1 ∷ asked 2 ∷ begins 2 1 ∷ ended 1 ∷ begins 1 2 ∷ []) → ⊥
overtaken (inl h) = let same = h.0 in omega (arith, same)
overtaken (inr (inl h)) = h.1
overtaken (inr (inr h)) = h

-- a crash while the first runs: the boot reports it, and no boot reports an action that is begun after it
reported : length (filter (is_of r1 1) (interruptions empty (registered ∷ asked 1 ∷ begins 1 1 ∷ boot ∷ asked 2 ∷ begins 2 2 ∷ []))) ≡ 1
reported = refl
