-- A turn ends each action whose timeout has passed.
use Rattle.std.proofs.Common.{◌≡◌, ◌≢◌, ◌⊎◌, inl, inr, ℕ, zero, suc, Bool, true, false, cond, List, [], ◌∷◌, ◌++◌, map, Some, Result, Contains, refl, sym, ap, subst, ◌∙◌, arith}
use Rattle.std.proofs.lemmas.List.Elements.{Contains-append_left, Contains-append_right}
use Rattle.ocf_model.specs.Answer.{moment}
use Rattle.ocf_model.specs.State.{State}
use Rattle.ocf_types.specs.declared.operation.Running.{Running}
use Rattle.ocf_types.specs.declared.notice.Notice.{Notice}
use Rattle.ocf_model.specs.declared.reply.TurnEnd.{TurnEnd}
use Rattle.ocf_model.specs.declared.reply.TurnEnd.TheVariants as turn_end
use Rattle.child_model.specs.Children.{kill_answer, poll_answer}
use Rattle.child_model.specs.declared.answer.Entry.{Entry}
use Rattle.child_model.specs.declared.answer.KillFault.{KillFault}
use Rattle.child_model.specs.declared.answer.Poll.{Poll}
use Rattle.child_model.specs.declared.answer.Poll.TheVariants as poll
use Rattle.store_model.specs.StoreView.{StoreView}
use Rattle.exec_ledger.specs.Actives.{Active, active}
use Rattle.exec_ledger.specs.BatchStarts.{BatchStart}
use Rattle.exec_ledger.specs.LedgerView.{LedgerView}
use Rattle.exec_ledger.specs.Pieces.{Effects}
use Rattle.exec_turn.specs.Polls.{Polled, book_entry, entries_of, is_late, polls}
use Rattle.exec_turn.specs.Turn.{EachPolled, IsTurn, Whole}
use Rattle.exec_turn.proofs.Choosing.{contains_after, contains_first}
use Rattle.executor.specs.ExecutorView.{ExecutorView}
use Rattle.executor.specs.TurnCalls.{TakesTurn, with_empty_book}
use Rattle.session_machine.specs.Behaviours.{May}
use Rattle.session_machine.specs.Events.{Turned}
use Rattle.session_machine.specs.Room.{MakesRoom, TurnsNow, is_tidy_due}
use Rattle.session_machine.specs.Session.{SessionState}
use Rattle.session_machine.specs.Timeouts.{IsEndedBy}
use Rattle.session_machine.specs.declared.rules.Rules.{Rules}

pub some_same : (m n : ℕ) → Some m ≡ Some n → m ≡ n
some_same m n is = cc

-- in a longer book
ended_left : (xs ys : List Entry) (run : ℕ) → IsEndedBy xs run → IsEndedBy (xs ++ ys) run
ended_left xs ys run (answer, polled, killed) = (
  answer,
  Contains-append_left xs ys _ polled,
  λ runs. ((killed runs).0, Contains-append_left xs ys _ (killed runs).1),
)

ended_right : (xs ys : List Entry) (run : ℕ) → IsEndedBy ys run → IsEndedBy (xs ++ ys) run
ended_right xs ys run (answer, polled, killed) = (
  answer,
  Contains-append_right xs ys _ polled,
  λ runs. ((killed runs).0, Contains-append_right xs ys _ (killed runs).1),
)

-- the poll of an action that is late
entries_end : (at : ℕ) (x : Running) (answer : Poll) (kill : Result Unit KillFault) → is_late at x ≡ true → IsEndedBy (entries_of at x answer kill) x.run
entries_end at x poll.Running kill late = (
  poll.Running,
  contains_first (book_entry x.run (poll_answer poll.Running)) _,
  λ _. (
    kill,
    subst (λ (b : Bool). Contains (book_entry x.run (poll_answer poll.Running) ∷ cond b (book_entry x.run (kill_answer kill) ∷ []) [])
        (book_entry x.run (kill_answer kill))) (sym late)
        (contains_after (book_entry x.run (poll_answer poll.Running)) (book_entry x.run (kill_answer kill)) (book_entry x.run (kill_answer kill) ∷ [])
        (contains_first (book_entry x.run (kill_answer kill)) [])),
  ),
)
entries_end at x (poll.Exited code) kill late = (poll.Exited code, contains_first _ [], λ runs. absurd cc)
entries_end at x (poll.Signaled signal) kill late = (poll.Signaled signal, contains_first _ [], λ runs. absurd cc)
entries_end at x poll.Fault kill late = (poll.Fault, contains_first _ [], λ runs. absurd cc)

pub first_or_rest : {A : Type 0} (x r : A) (xs : List A) → Contains (x ∷ xs) r → (x ≡ r) ⊎ Contains xs r
first_or_rest x r xs (zero, h, e) = inl e
first_or_rest x r xs (suc k, h, e) = inr (k, omega (arith, h), e)

polls_end : (at : ℕ) (ps : List Polled) (a : Active) → Contains (map (λ p. p.who) ps) a → is_late at a.running ≡ true → IsEndedBy (polls at ps) a.running.run
polls_end at [] a there late = absurd (omega (arith, there.1))
polls_end at (p ∷ ps) a there late = by (first_or_rest p.who a (map (λ (q : Polled). q.who) ps) there) (λ later. polls_end at ps a later late)
  where
    by : (p.who ≡ a) ⊎ Contains (map (λ (q : Polled). q.who) ps) a
        → (Contains (map (λ (q : Polled). q.who) ps) a → IsEndedBy (polls at ps) a.running.run)
        → IsEndedBy (entries_of at p.who.running p.poll p.kill ++ polls at ps) a.running.run
    by (inl is) rest =
        ended_left (entries_of at p.who.running p.poll p.kill) (polls at ps) a.running.run
        (subst (λ (b : Active). IsEndedBy (entries_of at p.who.running p.poll p.kill) b.running.run) is
        (entries_end at p.who.running p.poll p.kill (subst (λ (b : Active). is_late at b.running ≡ true) (sym is) late)))
    by (inr later) rest = ended_right (entries_of at p.who.running p.poll p.kill) (polls at ps) a.running.run (rest later)

module _ (x : BatchStart) (a : Active) (there : Contains (active x.state) a) (late : is_late x.at a.running ≡ true) where
  each_end : (ps : List Polled) → EachPolled x ps → IsEndedBy (polls x.at ps) a.running.run
  each_end ps each = polls_end x.at ps a (subst (λ (all : List Active). Contains all a) (sym each.each) there) late

  more_end : (ps : List Polled) (more : List Entry) (did : Effects) → EachPolled x ps → did.entries ≡ polls x.at ps ++ more
      → IsEndedBy did.entries a.running.run
  more_end ps more did each is =
      subst (λ (book : List Entry). IsEndedBy book a.running.run) (sym is) (ended_left (polls x.at ps) more a.running.run (each_end ps each))

  only_end : (ps : List Polled) (did : Effects) → EachPolled x ps → did.entries ≡ polls x.at ps → IsEndedBy did.entries a.running.run
  only_end ps did each is = subst (λ (book : List Entry). IsEndedBy book a.running.run) (sym is) (each_end ps each)

  whole_ends : (held : List (List ℕ)) (end : TurnEnd) (did : Effects) (reported : List Notice) → Whole held end x did reported
      → IsEndedBy did.entries a.running.run
  whole_ends held end did reported (t, is, ns) = more_end t.polled _ did t.each_polled (ap (λ (d : Effects). d.entries) is)

  kind_ends : (held : List (List ℕ)) (end : TurnEnd) (did : Effects) (reported : List Notice) → end ≢ turn_end.BookFull → IsTurn held end x did reported
      → IsEndedBy did.entries a.running.run
  kind_ends held turn_end.Closed did reported some none = absurd none
  kind_ends held turn_end.BookFull did reported some is = absurd (some refl)
  kind_ends held turn_end.Done did reported some whole = whole_ends held turn_end.Done did reported whole
  kind_ends held turn_end.RunsSpent did reported some whole = whole_ends held turn_end.RunsSpent did reported whole
  kind_ends held turn_end.Full did reported some whole = whole_ends held turn_end.Full did reported whole
  kind_ends held turn_end.Memory did reported some whole = whole_ends held turn_end.Memory did reported whole
  kind_ends held turn_end.Disk did reported some (inl (ps, each, is, ns)) = only_end ps did each (ap (λ (d : Effects). d.entries) is)
  kind_ends held turn_end.Disk did reported some (inr (inl (ps, end, bs, each, picked, is, ns))) =
      only_end ps did each (ap (λ (d : Effects). d.entries) is)
  kind_ends held turn_end.Disk did reported some (inr (inr (end, t, is, ns))) =
      more_end t.polled _ did t.each_polled (ap (λ (d : Effects). d.entries) is)

module _ {S : Type 0} (view : S → StoreView) where
  turn_ends : (now : ℕ) (x y : ExecutorView S) (end : TurnEnd) → TakesTurn view now x y end → end ≢ turn_end.BookFull → (a : Active)
      → Contains (active x.state) a → is_late (moment x.state now) a.running ≡ true → IsEndedBy y.children.book a.running.run
  turn_ends now x y end takes some a there late =
      subst (λ (book : List Entry). IsEndedBy book a.running.run) (sym takes.turns.book)
      (ended_right x.children.book takes.turns.effects.entries a.running.run
      (kind_ends _ a there late y.children.held end takes.turns.effects y.reported some takes.turns.does))

  -- a tidy leaves the state as it is
  pub room_state : (rules : Rules) (now : ℕ) (x y : ExecutorView S) → MakesRoom view rules now x y → y.state ≡ x.state
  room_state rules now x y room = by (is_tidy_due view rules x now room.pace) refl
    where
      by : (b : Bool) → is_tidy_due view rules x now room.pace ≡ b → y.state ≡ x.state
      by true due = ap (λ (l : LedgerView S). l.state) (room.made due).1.0.same
      by false none = ap (λ (z : ExecutorView S). z.state) (room.none none)

  -- a turn of a session ends what is late
  pub late_ends : (rules : Rules) (now : ℕ) (x y : ExecutorView S) (end : TurnEnd) → TurnsNow view rules now x y end → end ≢ turn_end.BookFull
      → (a : Active) → Contains (active x.state) a → is_late (moment x.state now) a.running ≡ true → IsEndedBy y.children.book a.running.run
  late_ends rules now x y end turns some a there late =
      let same = sym (room_state rules now (with_empty_book x) turns.middle turns.room) in
      turn_ends now turns.middle y end turns.takes some a (subst (λ (t : State). Contains (active t) a) same there)
      (subst (λ (t : State). is_late (moment t now) a.running ≡ true) same late)

  pub late_killed : (s : SessionState S) (end : TurnEnd) (x : ExecutorView S) (now : ℕ) (a : Active) → May view s (Turned end x) → s.shown ≡ Some now
      → end ≢ turn_end.BookFull → Contains (active s.executor.state) a → is_late (moment s.executor.state now) a.running ≡ true
      → IsEndedBy x.children.book a.running.run
  late_killed s end x now a may shown some there late =
      late_ends s.rules may.now s.executor x end may.turns some a there
      (subst (λ n. is_late (moment s.executor.state n) a.running ≡ true) (some_same now may.now (sym shown ∙ may.shown)) late)
