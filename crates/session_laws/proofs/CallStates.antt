-- The states that calls of an executor lead to: small ones to small ones.
use Rattle.std.proofs.Common.{◌≡◌, ◌↔◌, inl, inr, ℕ, Bool, true, false, List, [], ◌∷◌, ◌++◌, map, Option, Some, None, option_to_list, Result, Ok, Err, refl, sym, ap, subst, ◌∙◌}
use Rattle.std.specs.List.{AllByRecursion, flat_map}
use Rattle.ocf_model.specs.Answer.{event_of}
use Rattle.ocf_types.specs.Kinds.{Command, Event, Step}
use Rattle.ocf_model.specs.Answer.{Reply}
use Rattle.ocf_model.specs.StateLemmas.{after_all-append}
use Rattle.ocf_types.specs.Lemmas.{each_append}
use Rattle.ocf_model.specs.State.{State, after, after_all}
use Rattle.ocf_types.specs.declared.event.Change.TheVariants as change
use Rattle.ocf_types.specs.declared.event.Step.TheVariants as step
use Rattle.ocf_types.specs.declared.outcome.RunEnd.{RunEnd}
use Rattle.ocf_types.specs.declared.outcome.StartFault.{StartFault}
use Rattle.ocf_model.specs.declared.refusal.Refusal.{Refusal}
use Rattle.ocf_model.specs.declared.refusal.Refusal.TheVariants.{Closed, Disk}
use Rattle.ocf_types.specs.declared.notice.Notice.{Notice}
use Rattle.ocf_model.specs.declared.reply.ReplyOf.TheVariants as reply
use Rattle.ocf_model.specs.declared.reply.TurnEnd.{TurnEnd}
use Rattle.ocf_model.specs.declared.reply.TurnEnd.TheVariants as turn_end
use Rattle.store_model.specs.StoreView.{StoreView}
use Rattle.exec_ledger.specs.Actives.{Active}
use Rattle.exec_ledger.specs.BatchStarts.{BatchStart}
use Rattle.exec_ledger.specs.CommitGroups.{CommitGroup, TakesGroup, TakesGroups, commands_of}
use Rattle.exec_ledger.specs.CommitGroups as group
use Rattle.exec_ledger.specs.Commands.{Obeys}
use Rattle.exec_ledger.specs.LedgerView.{LedgerView, While}
use Rattle.exec_ledger.specs.Pieces.{Effects}
use Rattle.exec_ledger.specs.Replies.{recorded}
use Rattle.exec_ledger.specs.Together.{Adds, Answered, TakesBatch}
use Rattle.exec_turn.specs.Picks.{begins}
use Rattle.exec_turn.specs.Polls.{Polled, ending, results}
use Rattle.exec_turn.specs.Starts.{Started, refusals, refused_end}
use Rattle.exec_turn.specs.Turn.{IsFinish, IsTurn, Whole}
use Rattle.exec_turn.specs.Actives.{result_of}
use Rattle.session_laws.specs.Named.{IsNamed}
use Rattle.session_laws.specs.Small.{IsRunStep, IsSmallState}
use Rattle.session_laws.proofs.SmallStates.{command_small, run_small}

-- the event begins an action, or is the result of one
record IsRunEvent (e : Event) : Type 0 where
  id : List ℕ
  what : Step
  is : e.change ≡ change.Step id what
  runs : IsRunStep what

run_event : (s : State) (e : Event) → IsRunEvent e → IsSmallState s → IsSmallState (after s e)
run_event s e runs h =
    subst (λ c. IsSmallState (after s (record { at = e.at; change = c }))) (sym runs.is) (run_small s e.at runs.id runs.what runs.runs h)

run_events : (s : State) (es : List Event) → AllByRecursion IsRunEvent es → IsSmallState s → IsSmallState (after_all s es)
run_events s [] runs h = h
run_events s (e ∷ es) runs h = run_events (after s e) es runs.1 (run_event s e runs.0 h)

-- the events of turns
result_runs : (at : ℕ) (a : Active) (end : RunEnd) → IsRunEvent (result_of at a end)
result_runs at a end = record { id = a.id; what = step.Result a.running.run end; is = refl; runs = tt }

ended_run : (at : ℕ) (a : Active) (o : Option RunEnd) (es : List Event) → AllByRecursion IsRunEvent es
    → AllByRecursion IsRunEvent (map (result_of at a) (option_to_list o) ++ es)
ended_run at a None es rest = rest
ended_run at a (Some end) es rest = (result_runs at a end, rest)

results_run : (at : ℕ) (ps : List Polled) → AllByRecursion IsRunEvent (results at ps)
results_run at [] = tt
results_run at (p ∷ ps) = ended_run at p.who (ending at p.who.running p.poll) (results at ps) (results_run at ps)

pub results_small : (s : State) (at : ℕ) (ps : List Polled) → IsSmallState s → IsSmallState (after_all s (results at ps))
results_small s at ps h = run_events s (results at ps) (results_run at ps) h

begins_run : (at : ℕ) (bs : List Active) → AllByRecursion IsRunEvent (begins at bs)
begins_run at [] = tt
begins_run at (a ∷ bs) = (record { id = a.id; what = step.Begin a.running.call a.running.run; is = refl; runs = tt }, begins_run at bs)

refusals_run : (at : ℕ) (xs : List Started) → AllByRecursion IsRunEvent (refusals at xs)
refusals_run at [] = tt
refusals_run at (x ∷ xs) = by x.answer (refusals_run at xs)
  where
    by : (answer : Result Unit StartFault) → AllByRecursion IsRunEvent (refusals at xs)
        → AllByRecursion IsRunEvent (map (result_of at x.what) (refused_end answer) ++ refusals at xs)
    by (Ok done) rest = rest
    by (Err fault) rest = (result_runs at x.what _, rest)

whole_runs : (held : List (List ℕ)) (end : TurnEnd) (x : BatchStart) (did : Effects) (reported : List Notice) → Whole held end x did reported
    → AllByRecursion IsRunEvent did.events
whole_runs held end x did reported (t, is, told) =
    subst (λ (d : Effects). AllByRecursion IsRunEvent d.events) (sym is)
    (each_append IsRunEvent (results x.at t.polled ++ begins x.at t.begun) (refusals x.at t.started)
    (each_append IsRunEvent (results x.at t.polled) (begins x.at t.begun) (results_run x.at t.polled) (begins_run x.at t.begun))
    (refusals_run x.at t.started))

turn_runs : (held : List (List ℕ)) (end : TurnEnd) (x : BatchStart) (did : Effects) (reported : List Notice) → IsTurn held end x did reported
    → AllByRecursion IsRunEvent did.events
turn_runs held turn_end.Closed x did reported none = absurd none
turn_runs held turn_end.BookFull x did reported (is, told) = subst (λ (d : Effects). AllByRecursion IsRunEvent d.events) (sym is) tt
turn_runs held turn_end.Done x did reported whole = whole_runs held turn_end.Done x did reported whole
turn_runs held turn_end.RunsSpent x did reported whole = whole_runs held turn_end.RunsSpent x did reported whole
turn_runs held turn_end.Full x did reported whole = whole_runs held turn_end.Full x did reported whole
turn_runs held turn_end.Memory x did reported whole = whole_runs held turn_end.Memory x did reported whole
turn_runs held turn_end.Disk x did reported (inl (ps, each, is, told)) = subst (λ (d : Effects). AllByRecursion IsRunEvent d.events) (sym is) tt
turn_runs held turn_end.Disk x did reported (inr (inl (ps, end, bs, each, picked, is, told))) =
    subst (λ (d : Effects). AllByRecursion IsRunEvent d.events) (sym is) (results_run x.at ps)
turn_runs held turn_end.Disk x did reported (inr (inr (end, t, is, told))) =
    subst (λ (d : Effects). AllByRecursion IsRunEvent d.events) (sym is)
    (each_append IsRunEvent (results x.at t.polled) (begins x.at t.begun) (results_run x.at t.polled) (begins_run x.at t.begun))

finish_runs : (held : List (List ℕ)) (end : TurnEnd) (x : BatchStart) (did : Effects) (reported : List Notice) → IsFinish held end x did reported
    → AllByRecursion IsRunEvent did.events
finish_runs held turn_end.Done x did reported (ps, each, is, told) =
    subst (λ (d : Effects). AllByRecursion IsRunEvent d.events) (sym is) (results_run x.at ps)
finish_runs held turn_end.BookFull x did reported (is, told) = subst (λ (d : Effects). AllByRecursion IsRunEvent d.events) (sym is) tt
finish_runs held turn_end.Disk x did reported (ps, each, is, told) = subst (λ (d : Effects). AllByRecursion IsRunEvent d.events) (sym is) tt
finish_runs held turn_end.Closed x did reported none = absurd none
finish_runs held turn_end.RunsSpent x did reported none = absurd none
finish_runs held turn_end.Full x did reported none = absurd none
finish_runs held turn_end.Memory x did reported none = absurd none

-- so turns lead from small states to small ones
pub turn_small : (held : List (List ℕ)) (end : TurnEnd) (x : BatchStart) (did : Effects) (reported : List Notice) → IsTurn held end x did reported
    → IsSmallState x.state → IsSmallState (after_all x.state did.events)
turn_small held end x did reported turns h = run_events x.state did.events (turn_runs held end x did reported turns) h

pub finish_small : (held : List (List ℕ)) (end : TurnEnd) (x : BatchStart) (did : Effects) (reported : List Notice) → IsFinish held end x did reported
    → IsSmallState x.state → IsSmallState (after_all x.state did.events)
finish_small held end x did reported turns h = run_events x.state did.events (finish_runs held end x did reported turns) h

-- the events of a command, by its reply
recorded_small : (s : State) (e : Event) (r : Reply) → IsSmallState s → IsSmallState (after s e) → IsSmallState (after_all s (recorded e r))
recorded_small s e (reply.Refused why) was is = was
recorded_small s e (reply.Accepted call key) was is = is
recorded_small s e reply.Done was is = is
recorded_small s e (reply.List ids) was is = is
recorded_small s e (reply.Info info) was is = is
recorded_small s e (reply.History ended) was is = is
recorded_small s e (reply.Turn end) was is = is

-- commands, each answered by the state after those before it
added_small : (s : State) (now : ℕ) (c : Command) (found : Result Event Refusal) (r : Reply) (es : List Event) → event_of s now c ≡ found
    → IsSmallState s → IsNamed c → Adds found r es → IsSmallState (after_all s es)
added_small s now c (Err why) r es is h named (refused, none) = subst (λ (l : List Event). IsSmallState (after_all s l)) (sym none) h
added_small s now c (Ok e) r es is h named (inl (done, one)) =
    subst (λ (l : List Event). IsSmallState (after_all s l)) (sym one) (command_small s now c e h named is)
added_small s now c (Ok e) r es is h named (inr (refused, registers, none)) = subst (λ (l : List Event). IsSmallState (after_all s l)) (sym none) h

pub answered_small : (now : ℕ) (s : State) (cs : List Command) (rs : List Reply) (es : List Event) → IsSmallState s → AllByRecursion IsNamed cs
    → Answered now s cs rs es → IsSmallState (after_all s es)
answered_small now s [] [] es h named none = subst (λ (l : List Event). IsSmallState (after_all s l)) (sym none) h
answered_small now s [] (r ∷ rs) es h named bad = absurd bad
answered_small now s (c ∷ cs) [] es h named bad = absurd bad
answered_small now s (c ∷ cs) (r ∷ rs) es h named (first, later, adds, answered, both) =
    subst (λ (l : List Event). IsSmallState (after_all s l)) (sym both)
    (subst IsSmallState (sym (after_all-append s first later))
    (answered_small now (after_all s first) cs rs later (added_small s now c (event_of s now c) r first refl h named.0 adds) named.1 answered))

module _ {S : Type 0} (view : S → StoreView) where
  -- a command by itself
  obeyed_small : (s : State) (now : ℕ) (c : Command) (found : Result Event Refusal) (x y : LedgerView S) (r : Reply) → event_of s now c ≡ found
      → x.state ≡ s → IsSmallState s → IsNamed c → Obeys view found x y r → IsSmallState y.state
  obeyed_small s now c (Err why) x y r is same h named (refused, stays) =
      subst IsSmallState (sym (ap (λ (l : LedgerView S). l.state) stays ∙ same)) h
  obeyed_small s now c (Ok e) x y r is same h named records =
      subst IsSmallState (sym (records.crash.state ∙ ap (λ (t : State). after_all t (recorded e r)) same))
      (recorded_small s e r h (command_small s now c e h named is))

  pub obeys_small : (now : ℕ) (c : Command) (x y : LedgerView S) (r : Reply) → IsSmallState x.state → IsNamed c
      → Obeys view (event_of x.state now c) x y r → IsSmallState y.state
  obeys_small now c x y r h named obeys = obeyed_small x.state now c (event_of x.state now c) x y r refl refl h named obeys

  -- a batch
  batch_small : (now : ℕ) (cs : List Command) (x y : LedgerView S) (rs : List Reply) → IsSmallState x.state → AllByRecursion IsNamed cs
      → TakesBatch view now cs x y rs → IsSmallState y.state
  batch_small now cs x y rs h named takes =
      subst IsSmallState (sym (ap (λ (l : LedgerView S). l.state) takes.records.went.same))
      (answered_small now x.state cs takes.meant takes.events h named takes.answered)

  -- one after the other
  group_small : (now : ℕ) (g : CommitGroup) (x y : LedgerView S) → IsSmallState x.state → AllByRecursion IsNamed (commands_of g)
      → TakesGroup view now g x y → IsSmallState y.state
  group_small now (group.Single c r) x y h named takes = by x.is_open takes
    where
      by : (o : Bool) → While o (Obeys view (event_of x.state now c) x y r × ((y.is_open ≡ false) ↔ (r ≡ reply.Refused Disk)))
          ((r ≡ reply.Refused Closed) × (y ≡ x)) → IsSmallState y.state
      by true (obeys, closes) = obeys_small now c x y r h named.0 obeys
      by false (refused, same) = subst (λ (l : LedgerView S). IsSmallState l.state) (sym same) h
  group_small now (group.Batch cs rs) x y h named takes = batch_small now cs x y rs h named takes

  pub groups_small : (now : ℕ) (gs : List CommitGroup) (x y : LedgerView S) → IsSmallState x.state
      → AllByRecursion IsNamed (flat_map commands_of gs) → TakesGroups view now gs x y → IsSmallState y.state
  groups_small now [] x y h named same = subst (λ (l : LedgerView S). IsSmallState l.state) (sym same) h
  groups_small now (g ∷ gs) x y h named (mid, takes, rest) =
      groups_small now gs mid y (group_small now g x mid h (each_left (commands_of g) (flat_map commands_of gs) named) takes)
      (each_right (commands_of g) (flat_map commands_of gs) named) rest
    where
      each_left : (xs ys : List Command) → AllByRecursion IsNamed (xs ++ ys) → AllByRecursion IsNamed xs
      each_left [] ys all = tt
      each_left (c ∷ xs) ys all = (all.0, each_left xs ys all.1)

      each_right : (xs ys : List Command) → AllByRecursion IsNamed (xs ++ ys) → AllByRecursion IsNamed ys
      each_right [] ys all = all
      each_right (c ∷ xs) ys all = each_right xs ys all.1
