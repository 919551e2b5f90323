-- A turn, and one that begins nothing: its effects and notices as functions of what the children answered.
use Rattle.std.specs.Prelude.{◌≡◌, ◌⊎◌, ℕ, List, [], ◌++◌, map, IsTrue}
use Rattle.std.specs.List.{AllByRecursion}
use Rattle.ocf_model.specs.declared.reply.TurnEnd.{TurnEnd}
use Rattle.ocf_model.specs.declared.reply.TurnEnd.TheVariants as turn_end
use Rattle.ocf_types.specs.declared.notice.Notice.{Notice}
use Rattle.exec_ledger.specs.Pieces.{Effects, no_effects}
use Rattle.exec_ledger.specs.BatchStarts.{BatchStart, following}
use Rattle.exec_ledger.specs.Actives.{Active, active}
use Rattle.exec_turn.specs.Picks.{Picked, begins}
use Rattle.exec_turn.specs.Polls.{IsPoll, Polled, polls, result_notices, results}
use Rattle.exec_turn.specs.Starts.{Started, refusal_notices, refusals, starts}

-- a kind of turn: a relation of the resources that were held when its actions were picked, its end, the view before its first batch
-- (`BatchStart`), its effects and its notices
abbrev pub TurnKind : Type 1
TurnKind = List (List ℕ) → TurnEnd → BatchStart → Effects → List Notice → Type 0

-- one answer to a poll of each running action, in order of registration
pub record EachPolled (x : BatchStart) (ps : List Polled) : Type 0 where
  pub each : map (λ p. p.who) ps ≡ active x.state
  pub bytes : AllByRecursion (λ p. IsPoll p.poll) ps

-- the actions begun, from the view before their batch, while some resources are held, by what ended the picks; lack of memory ends
-- them only where the allocator refuses growths
abbrev pub PickedAt : List (List ℕ) → TurnEnd → BatchStart → List Active → Type 0
PickedAt held end x bs = Picked held end x.state x.due x.tail x.at bs × (end ≡ turn_end.Memory → IsTrue x.refuses)

-- The answers in a turn: to a poll of each running action, and to a start of each action begun after their results, in order of
-- registration; the starts were requested when the store had made `clock` device calls.
pub record TurnAnswers (held : List (List ℕ)) (end : TurnEnd) (x : BatchStart) : Type 0 where
  pub polled : List Polled
  pub begun : List Active
  pub started : List Started
  pub clock : ℕ
  pub each_polled : EachPolled x polled
  pub picked : PickedAt held end (following x (results x.at polled)) begun
  pub each_started : map (λ a. a.what) started ≡ begun

-- a turn with these answers that left nothing pending
abbrev pub Whole : TurnKind
Whole held end x did reported = (t : TurnAnswers held end x)
    × (did ≡ record {
      entries = polls x.at t.polled ++ starts t.clock t.started;
      events = results x.at t.polled ++ begins x.at t.begun ++ refusals x.at t.started;
      pending = [];
    })
    × (reported ≡ result_notices x.at t.polled ++ refusal_notices x.at t.started)

-- a turn that did nothing
abbrev pub Nothing : Effects → List Notice → Type 0
Nothing did reported = (did ≡ no_effects) × (reported ≡ [])

-- a turn whose batch of results was recorded, and which began nothing
abbrev pub OnlyResults : BatchStart → Effects → List Notice → Type 0
OnlyResults x did reported = (ps : List Polled) × EachPolled x ps
    × (did ≡ record { entries = polls x.at ps; events = results x.at ps; pending = [] }) × (reported ≡ result_notices x.at ps)

-- a turn whose batch of results failed: it polled, and no more
abbrev pub NoResults : BatchStart → Effects → List Notice → Type 0
NoResults x did reported = (ps : List Polled) × EachPolled x ps
    × (did ≡ record { entries = polls x.at ps; events = []; pending = results x.at ps }) × (reported ≡ [])

-- a turn whose batch of begins failed: nothing was spawned
abbrev pub NoBegins : List (List ℕ) → BatchStart → Effects → List Notice → Type 0
NoBegins held x did reported = (ps : List Polled) × (end : TurnEnd) × (bs : List Active) × EachPolled x ps
    × PickedAt held end (following x (results x.at ps)) bs
    × (did ≡ record { entries = polls x.at ps; events = results x.at ps; pending = begins x.at bs }) × (reported ≡ result_notices x.at ps)

-- a turn whose batch of results of refused starts failed, after all agents were spawned
abbrev pub NoRefusals : List (List ℕ) → BatchStart → Effects → List Notice → Type 0
NoRefusals held x did reported = (end : TurnEnd) × (t : TurnAnswers held end x)
    × (did ≡ record {
      entries = polls x.at t.polled ++ starts t.clock t.started;
      events = results x.at t.polled ++ begins x.at t.begun;
      pending = refusals x.at t.started;
    })
    × (reported ≡ result_notices x.at t.polled)

-- a turn of an open executor, by its end
abbrev pub IsTurn : TurnKind
IsTurn held turn_end.Closed x did reported = ⊥
IsTurn held turn_end.BookFull x did reported = Nothing did reported
IsTurn held turn_end.Disk x did reported = NoResults x did reported ⊎ (NoBegins held x did reported ⊎ NoRefusals held x did reported)
IsTurn held end x did reported = Whole held end x did reported

-- a turn that begins nothing, by its end
abbrev pub IsFinish : TurnKind
IsFinish held turn_end.Done x did reported = OnlyResults x did reported
IsFinish held turn_end.BookFull x did reported = Nothing did reported
IsFinish held turn_end.Disk x did reported = NoResults x did reported
IsFinish held _ x did reported = ⊥
