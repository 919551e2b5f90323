-- A turn begins an action of each resource with a monitor that is due.
use Rattle.std.proofs.Common.{◌≡◌, ◌⊎◌, inl, inr, ℕ, ◌+◌, ◌==◌, Bool, true, false, cond, List, [], ◌∷◌, ◌++◌, map, length, Option, Some, None, option_map, Contains, refl, sym, ap, subst, ◌∙◌, arith}
use Rattle.std.specs.List.{cons_option}
use Rattle.std.proofs.lemmas.List.Elements.{Contains-append_left, Contains-append_right}
use Rattle.ocf_model.specs.Answer.{moment}
use Rattle.ocf_model.specs.Due.{Due, IsLeastDue, IsPick, IsPickOf, due_pairs}
use Rattle.ocf_model.specs.Resource.{Resource, begun_from, of_call, run_of_monitor}
use Rattle.ocf_model.specs.State.{Registry, State, after_all}
use Rattle.ocf_types.specs.declared.operation.Op.{Op}
use Rattle.ocf_types.specs.declared.operation.Recur.{Recur}
use Rattle.ocf_types.specs.declared.operation.Running.{Running}
use Rattle.ocf_types.specs.declared.notice.Notice.{Notice}
use Rattle.ocf_model.specs.declared.reply.TurnEnd.TheVariants as turn_end
use Rattle.child_model.specs.Children.{start_answer}
use Rattle.child_model.specs.declared.answer.Entry.{Entry}
use Rattle.store_model.specs.StoreView.{StoreView}
use Rattle.exec_ledger.specs.Actives.{Active, active, active_of}
use Rattle.exec_ledger.specs.BatchStarts.{BatchStart, due_after_all}
use Rattle.exec_ledger.specs.LedgerView.{LedgerView, While}
use Rattle.exec_ledger.specs.Pieces.{Effects}
use Rattle.exec_turn.specs.Picks.{ArePicks, IsNext, begun_in}
use Rattle.exec_turn.specs.Polls.{Polled, polls, results}
use Rattle.exec_turn.specs.Starts.{Started, starts}
use Rattle.exec_turn.specs.Turn.{Whole}
use Rattle.exec_state.specs.StateValue.{due_of}
use Rattle.exec_turn.proofs.Choosing.{contains_after, contains_first}
use Rattle.exec_turn.proofs.Results.{never_itself}
use Rattle.executor.specs.ExecutorView.{ExecutorView, due_in}
use Rattle.executor.specs.TurnCalls.{TakesTurn, with_empty_book}
use Rattle.session_machine.specs.Behaviours.{May}
use Rattle.session_machine.specs.DueMonitors.{IsStartedBy, IsWaiting, StartsDue}
use Rattle.session_machine.specs.Events.{Turned}
use Rattle.session_machine.specs.Room.{MakesRoom, TurnsNow, is_tidy_due}
use Rattle.session_machine.specs.Session.{SessionState}
use Rattle.session_machine.specs.declared.rules.Rules.{Rules}
use Rattle.session_machine.proofs.TimeoutLemmas.{first_or_rest, room_state, some_same}

-- a monitor that is due is one of the resource
later_pair : (m : Recur) (rest : List (ℕ × ℕ)) (at c : ℕ) (found : Option ℕ) → (m.call == c) ≡ false
    → Contains (cons_option (option_map (λ (at : ℕ). (at, m.call)) found) rest) (at, c) → Contains rest (at, c)
later_pair m rest at c None differs there = there
later_pair m rest at c (Some d) differs there = by (first_or_rest (d, m.call) (at, c) rest there)
  where
    by : ◌≡◌ {A = ℕ × ℕ} (d, m.call) (at, c) ⊎ Contains rest (at, c) → Contains rest (at, c)
    by (inl same) = absurd (never_itself m.call c differs (ap (λ (p : ℕ × ℕ). p.1) same))
    by (inr later) = later

monitor_of : (c : ℕ) (m : Recur) (ms : List Recur) (same : Bool) → (m.call == c) ≡ same
    → ((m.call == c) ≡ false → (n : Recur) × (of_call c ms ≡ Some n)) → (n : Recur) × (of_call c (m ∷ ms) ≡ Some n)
monitor_of c m ms true is rest = (m, ap (λ (b : Bool). cond b (Some m) (of_call c ms)) is)
monitor_of c m ms false is rest = let (n, of) = rest is in (n, ap (λ (b : Bool). cond b (Some m) (of_call c ms)) is ∙ of)

has_call : (c : ℕ) (due : ℕ → Option ℕ) (ms : List Recur) (at : ℕ) → Contains (due_pairs ms due) (at, c) → (m : Recur) × (of_call c ms ≡ Some m)
has_call c due [] at there = absurd (omega (arith, there.1))
has_call c due (m ∷ ms) at there =
    monitor_of c m ms (m.call == c) refl (λ differs. has_call c due ms at (later_pair m (due_pairs ms due) at c (due m.call) differs there))

-- the action that such a resource begins
begins_one : (at run call : ℕ) (e : List ℕ × Resource) (m : Recur) → e.1.history.queue ≡ [] → of_call call e.1.recurring ≡ Some m
    → begun_in at run e (Some call) ≡ record { id = e.0; running = run_of_monitor run at m } ∷ []
begins_one at run call e m unqueued is =
    ap (λ (x : Option Running). active_of e.0 x)
    (ap (λ (q : List Op). (begun_from q (of_call call e.1.recurring) run at e.1.history).running) unqueued
    ∙ ap (λ (k : Option Recur). option_map (run_of_monitor run at) k) is)

-- an action of this resource is among these
abbrev BeginsOf : List ℕ → List Active → Type 0
BeginsOf id all = (a : Active) × (a.id ≡ id) × Contains all a

waiting_begins : (held : List (List ℕ)) (due : Due) (at run : ℕ) (e : List ℕ × Resource) (call : Option ℕ) → IsWaiting held due at e
    → IsNext held due at e call → BeginsOf e.0 (begun_in at run e call)
waiting_begins held due at run e call waits next = by call least
  where
    pick : IsPick e.1 (due e.0) at call
    pick = subst (λ (b : Bool). While b (call ≡ None) (IsPick e.1 (due e.0) at call)) waits.loose next

    least : IsLeastDue (due_pairs e.1.recurring (due e.0)) at call
    least = subst (λ (q : List Op). IsPickOf None q (due_pairs e.1.recurring (due e.0)) at call) waits.unqueued
        (subst (λ (x : Option Running). IsPickOf x e.1.history.queue (due_pairs e.1.recurring (due e.0)) at call) waits.free pick)

    by : (c : Option ℕ) → IsLeastDue (due_pairs e.1.recurring (due e.0)) at c → BeginsOf e.0 (begun_in at run e c)
    by None none =
        let (k, lt, is) = waits.monitor in
        let late = none k (waits.moment, waits.call) lt in
        let same = ap (λ (p : ℕ × ℕ). p.0) is in
        let before = waits.is_due in
        absurd (omega (arith, late, same, before))
    by (Some c) (moment, there, is_due, first) =
        let (m, is) = has_call c (due e.0) e.1.recurring moment there in
        let a : Active = record { id = e.0; running = run_of_monitor run at m } in
        (a, refl, subst (λ (all : List Active). Contains all a) (sym (begins_one at run c e m waits.unqueued is)) (contains_first a []))

picks_begin : (held : List (List ℕ)) (due : Due) (at run : ℕ) (rs : Registry) (all : List Active) (e : List ℕ × Resource) → IsWaiting held due at e
    → Contains rs e → ArePicks held due at run rs all → BeginsOf e.0 all
picks_begin held due at run [] all e waits there are = absurd (omega (arith, there.1))
picks_begin held due at run (f ∷ es) all e waits there (call, rest, next, later, is) =
    by (first_or_rest f e es there) (λ below. picks_begin held due at (run + length (begun_in at run f call)) es rest e waits below later)
  where
    by : (f ≡ e) ⊎ Contains es e → (Contains es e → BeginsOf e.0 rest) → BeginsOf e.0 all
    by (inl same) go =
        let (a, of, there_now) = waiting_begins held due at run f call (subst (λ (z : List ℕ × Resource). IsWaiting held due at z) (sym same) waits) next in (
          a,
          of ∙ ap (λ (z : List ℕ × Resource). z.0) same,
          subst (λ (xs : List Active). Contains xs a) (sym is) (Contains-append_left (begun_in at run f call) rest a there_now),
        )
    by (inr below) go =
        let (a, of, there_now) = go below in
        (a, of, subst (λ (xs : List Active). Contains xs a) (sym is) (Contains-append_right (begun_in at run f call) rest a there_now))

-- each action that begins is started
starts_it : (clock : ℕ) (xs : List Started) (a : Active) → Contains (map (λ x. x.what) xs) a → IsStartedBy (starts clock xs) a.running.run
starts_it clock [] a there = absurd (omega (arith, there.1))
starts_it clock (x ∷ xs) a there = by (first_or_rest x.what a (map (λ (y : Started). y.what) xs) there) (λ later. starts_it clock xs a later)
  where
    by : (x.what ≡ a) ⊎ Contains (map (λ (y : Started). y.what) xs) a
        → (Contains (map (λ (y : Started). y.what) xs) a → IsStartedBy (starts clock xs) a.running.run)
        → IsStartedBy (record { run = x.what.running.run; at = clock; answer = start_answer x.answer } ∷ starts clock xs) a.running.run
    by (inl same) rest = (
      clock,
      x.answer,
      subst (λ (b : Active). Contains (record { run = x.what.running.run; at = clock; answer = start_answer x.answer } ∷ starts clock xs)
          (record { run = b.running.run; at = clock; answer = start_answer x.answer })) same
          (contains_first (record { run = x.what.running.run; at = clock; answer = start_answer x.answer }) (starts clock xs)),
    )
    by (inr later) rest =
        let (at, answer, found) = rest later in
        (at, answer, contains_after (record { run = x.what.running.run; at = clock; answer = start_answer x.answer }) _ (starts clock xs) found)

started_right : (xs ys : List Entry) (run : ℕ) → IsStartedBy ys run → IsStartedBy (xs ++ ys) run
started_right xs ys run (clock, answer, there) = (clock, answer, Contains-append_right xs ys _ there)

-- where nothing runs nothing is polled
none_polled : (ps : List Polled) → map (λ p. p.who) ps ≡ [] → ps ≡ []
none_polled [] none = refl
none_polled (p ∷ ps) none = absurd cc

-- so it does after the results of its own polls
whole_starts : (held : List (List ℕ)) (x : BatchStart) (did : Effects) (reported : List Notice) → Whole held turn_end.Done x did reported
    → (ps : List Polled) × (map (λ p. p.who) ps ≡ active x.state)
    × StartsDue did.entries held (after_all x.state (results x.at ps)) (due_after_all x.state x.due (results x.at ps)) x.at
whole_starts held x did reported (t, is, ns) = (t.polled, t.each_polled.each, each)
  where
    each : StartsDue did.entries held (after_all x.state (results x.at t.polled)) (due_after_all x.state x.due (results x.at t.polled)) x.at
    each e there waits =
        let (a, of, begins) =
        picks_begin held (due_after_all x.state x.due (results x.at t.polled)) x.at (after_all x.state (results x.at t.polled)).next_run
        (after_all x.state (results x.at t.polled)).resources t.begun e waits there t.picked.0.0
        in
        let started = starts_it t.clock t.started a (subst (λ (all : List Active). Contains all a) (sym t.each_started) begins) in (
          a,
          of,
          subst (λ (book : List Entry). IsStartedBy book a.running.run) (sym (ap (λ (d : Effects). d.entries) is))
              (started_right (polls x.at t.polled) (starts t.clock t.started) a.running.run started),
        )

-- a turn with this state, these due moments, this moment and this book, while these are held
abbrev pub BeginsDue : List Entry → List (List ℕ) → State → Due → ℕ → Type 0
BeginsDue book held state due at =
    (ps : List Polled) × (map (λ p. p.who) ps ≡ active state)
    × StartsDue book held (after_all state (results at ps)) (due_after_all state due (results at ps)) at

-- where nothing runs nothing has ended
pub idle_begins : (book : List Entry) (held : List (List ℕ)) (state : State) (due : Due) (at : ℕ) → active state ≡ [] → BeginsDue book held state due at
    → StartsDue book held state due at
idle_begins book held state due at idle (ps, each, begins) =
    subst (λ (qs : List Polled). StartsDue book held (after_all state (results at qs)) (due_after_all state due (results at qs)) at)
    (none_polled ps (each ∙ idle)) begins

module _ {S : Type 0} (view : S → StoreView) where
  turn_starts : (now : ℕ) (x y : ExecutorView S) → TakesTurn view now x y turn_end.Done
      → BeginsDue y.children.book y.children.held x.state (due_in x) (moment x.state now)
  turn_starts now x y takes =
      let (ps, each, begins) = whole_starts y.children.held _ takes.turns.effects y.reported takes.turns.does in (
        ps,
        each,
        λ e there waits. let (a, of, started) = begins e there waits in (
          a,
          of,
          subst (λ (book : List Entry). IsStartedBy book a.running.run) (sym takes.turns.book)
              (started_right x.children.book takes.turns.effects.entries a.running.run started),
        ),
      )

  -- a tidy leaves the monitors as they are
  room_due : (rules : Rules) (now : ℕ) (x y : ExecutorView S) → MakesRoom view rules now x y → due_in y ≡ due_in x
  room_due rules now x y room = by (is_tidy_due view rules x now room.pace) refl
    where
      by : (b : Bool) → is_tidy_due view rules x now room.pace ≡ b → due_in y ≡ due_in x
      by true due = ap (λ (l : LedgerView S). due_of l.monitors) (room.made due).1.0.same
      by false none = ap (λ (z : ExecutorView S). due_in z) (room.none none)

  due_starts : (rules : Rules) (now : ℕ) (x y : ExecutorView S) → TurnsNow view rules now x y turn_end.Done
      → BeginsDue y.children.book y.children.held x.state (due_in x) (moment x.state now)
  due_starts rules now x y turns =
      subst (λ (d : Due). BeginsDue y.children.book y.children.held x.state d (moment x.state now))
      (room_due rules now (with_empty_book x) turns.middle turns.room)
      (subst (λ (t : State). BeginsDue y.children.book y.children.held t (due_in turns.middle) (moment t now))
      (room_state view rules now (with_empty_book x) turns.middle turns.room) (turn_starts now turns.middle y turns.takes))

  pub due_begins : (s : SessionState S) (x : ExecutorView S) (now : ℕ) → May view s (Turned turn_end.Done x) → s.shown ≡ Some now
      → BeginsDue x.children.book x.children.held s.executor.state (due_in s.executor) (moment s.executor.state now)
  due_begins s x now may shown =
      subst (λ n. BeginsDue x.children.book x.children.held s.executor.state (due_in s.executor) (moment s.executor.state n))
      (some_same may.now now (sym may.shown ∙ shown)) (due_starts s.rules may.now s.executor x may.turns)
