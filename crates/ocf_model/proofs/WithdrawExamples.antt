-- Withdrawals, and how many results are kept, computed on examples.
use Rattle.std.proofs.Common.{◌≡◌, ℕ, suc, zero, List, [], ◌∷◌, map, length, Some, None, Err, refl}
use Rattle.std.specs.Prelude.{codes, option_map, take}
use Rattle.ocf_types.specs.declared.action.Action.TheVariants as action
use Rattle.ocf_types.specs.declared.action.Task.{Task}
use Rattle.ocf_types.specs.Actions.{plain, task}
use Rattle.ocf_types.specs.declared.layout.Layout.TheVariants.{First}
use Rattle.ocf_types.specs.declared.operation.Op.{Op}
use Rattle.ocf_types.specs.declared.outcome.RunEnd.TheVariants.{Done}
use Rattle.ocf_types.specs.declared.outcome.Outcome.TheVariants.{Run, Cancelled}
use Rattle.ocf_types.specs.declared.event.Step.TheVariants as step
use Rattle.ocf_types.specs.declared.event.Change.TheVariants as change
use Rattle.ocf_types.specs.declared.command.CommandOf.TheVariants as command
use Rattle.ocf_model.specs.declared.refusal.Refusal.TheVariants.{NotQueued, UnknownResource}
use Rattle.ocf_types.specs.Kinds.{Change, Event}
use Rattle.ocf_types.specs.Lawful.{IsLawfulStepIn}
use Rattle.ocf_model.specs.Resource.{History, no_history, accepted, begun, ended}
use Rattle.ocf_model.specs.State.{State, empty, resource_at, after, after_all}
use Rattle.ocf_model.specs.Answer.{event_of}
use Rattle.ocf_types.specs.Encoding.{two_bytes, four_bytes, eight_bytes, encoded_event_in}

abbrev r1 : List ℕ
r1 = codes "r1"

abbrev at : ℕ → Change → Event
at moment what = record { at = moment; change = what }

abbrev op : ℕ → Task → Op
op call what = record { call = call; task = what; timeout = 20000 }

-- r1 runs a start, and two stops are queued
abbrev queued : State
queued = after_all empty (
    at 0 (change.Register (record { id = r1; provider = codes "pacemaker"; agent = codes "Dummy"; params = [] }))
    ∷ at 0 (change.Step r1 (step.Exec (op 1 (task action.Start plain)))) ∷ at 10 (change.Step r1 (step.Begin 1 1))
    ∷ at 20 (change.Step r1 (step.Exec (op 2 (task action.Stop plain)))) ∷ at 20 (change.Step r1 (step.Exec (op 3 (task action.Stop plain)))) ∷ [])

-- the second of them is withdrawn at 40
abbrev withdrawn : State
withdrawn = after queued (at 40 (change.Step r1 (step.Withdraw 3)))

-- the withdrawn one is the last result, and the other stays queued
result_of_withdrawn : option_map (λ r. r.history.ended) (resource_at withdrawn r1) ≡ Some (
    record { call = 3; run = 0; action = action.Stop; interval = 0; since = 40; at = 40; outcome = Cancelled } ∷ [])
result_of_withdrawn = refl

left_queued : option_map (λ r. map (λ o. o.call) r.history.queue) (resource_at withdrawn r1) ≡ Some (2 ∷ [])
left_queued = refl

-- only a queued action can be withdrawn: not one that was withdrawn before, one that runs, or one of an unknown resource
again : event_of withdrawn 40 (command.Withdraw r1 3) ≡ Err NotQueued
unfolding two_bytes four_bytes eight_bytes encoded_event_in
again = refl

running : event_of withdrawn 40 (command.Withdraw r1 1) ≡ Err NotQueued
unfolding two_bytes four_bytes eight_bytes encoded_event_in
running = refl

no_resource : event_of withdrawn 40 (command.Withdraw (codes "zz") 3) ≡ Err UnknownResource
unfolding two_bytes four_bytes eight_bytes encoded_event_in
no_resource = refl

-- the first layout can't encode a withdrawal
unknown_in_first : IsLawfulStepIn First (step.Withdraw 3) → ⊥
unknown_in_first h = h.1

-- the history after n actions, of the calls from this one on, each accepted, begun and ended
abbrev results : ℕ → ℕ → History → History
results zero call h = h
results (suc n) call h = results n (suc call) (ended (Run (Done 0)) 10 (begun None call 0 (accepted (op call (task action.Stop plain)) h)))

-- of 65 results the last 64 are kept
abbrev of_65 : List ℕ
of_65 = map (λ e. e.call) (results 65 1 no_history).ended

sixty_four : (length of_65 ≡ 64) × (take 2 of_65 ≡ 2 ∷ 3 ∷ [])
sixty_four = (refl, refl)
