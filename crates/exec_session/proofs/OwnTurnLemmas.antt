-- Turns that a session makes by itself.
use Rattle.std.proofs.Common.{◌≡◌, ℕ, ◌+◌, ◌≤◌, Bool, true, false, not, cond, List, [], ◌∷◌, ◌++◌, map, length, Option, Some, None, Result, Ok, Err, IfOk, refl, sym, ap, subst, ◌∙◌, arith, length-append}
use Rattle.std.proofs.lemmas.Bool.{false≢true}
use Rattle.ocf_model.specs.declared.reply.TurnEnd.{TurnEnd}
use Rattle.child_model.specs.declared.answer.Entry.{Entry}
use Rattle.executor.specs.ExecutorView.{ExecutorView}
use Rattle.exec_commands.specs.declared.line.Line.TheVariants as line
use Rattle.session_machine.specs.After.{drain_of, own_turn, turned}
use Rattle.session_machine.specs.Behaviours.{Trace, then}
use Rattle.session_machine.specs.Events.{Shown, Turned}
use Rattle.session_machine.specs.May.{IsAtRest}
use Rattle.session_machine.specs.Pausing.{is_quiet}
use Rattle.session_machine.specs.Session.{At, Drain, Lines, OwnTurn, ReadLine, SessionState, Reading, lines_in}
use Rattle.session_machine.specs.declared.rules.Mode.TheVariants.{Serve}
use Rattle.exec_session.specs.Rounds.{Goes}
use Rattle.exec_session.specs.Standing.{Flows, KnowsTurn, Lasts, Standing, Steps}
use Rattle.exec_session.specs.Steps.{MakesOwnTurn, OnlySends}
use Rattle.exec_session.specs.declared.flow.Flow.{Flow}
use Rattle.exec_session.specs.declared.flow.Flow.TheVariants as flow
use Rattle.exec_session.specs.declared.pause.Pause.{Pause}
use Rattle.exec_session.proofs.RoundLemmas.{goes_so}

-- these lines ask for no drain
at_rest : (lines : Lines) (now most : ℕ) → IsAtRest lines → drain_of Reading lines now most ≡ None
at_rest [] now most rests = refl
at_rest (Ok (line.Meta provider agent limit) ∷ []) now most rests = refl
at_rest lines now most rests = absurd rests

abbrev shown_at : {S : Type 0} → SessionState S → ℕ → SessionState S
shown_at s now = record s { shown = Some now }

-- after the turn, and the messages that tell of it
pub record AfterOwnTurn {S : Type 0} (old : Trace S) (now : ℕ) (new : Trace S) (end : TurnEnd) (x : ExecutorView S) : Type 0 where
  pub lasts : Lasts old new
  pub longer : length old.events + 1 ≤ length new.events
  pub lines : lines_in new.state ≡ lines_in old.state
  pub part : new.state.part ≡ old.state.part
  pub found : new.state.found ≡ old.state.found
  pub ended : new.state.ended ≡ old.state.ended
  pub own : new.state.own ≡ own_turn old.state.own now end x
  pub executor : new.state.executor ≡ x

-- The clock was read, and then a turn was made.
module _ {S : Type 0} (old shown : Trace S) (now : ℕ) (is_shown : shown ≡ then old (Shown now)) (at : old.state.at ≡ Reading) where
  no_drain : IsAtRest (lines_in old.state) → drain_of old.state.at (lines_in old.state) now old.state.rules.most_turns ≡ None
  no_drain rests =
      ap (λ (a : At). drain_of a (lines_in old.state) now old.state.rules.most_turns) at ∙ at_rest (lines_in old.state) now old.state.rules.most_turns rests

  own_turned : (new : Trace S) (end : TurnEnd) (x : ExecutorView S) → IsAtRest (lines_in old.state) → new ≡ then shown (Turned end x)
      → new
      ≡ record {
        first = old.first;
        events = (old.events ++ Shown now ∷ []) ++ Turned end x ∷ [];
        state = turned (shown_at old.state now) None now end x;
      }
  own_turned new end x rests is =
      is ∙ ap (λ (t : Trace S). then t (Turned end x)) is_shown
      ∙ ap (λ (d : Option Drain). record {
        first = old.first;
        events = (old.events ++ Shown now ∷ []) ++ Turned end x ∷ [];
        state = turned (shown_at old.state now) d now end x;
      }) (no_drain rests)

  pub after_turned : (new : Trace S) (end : TurnEnd) (x : ExecutorView S) → IsAtRest (lines_in old.state) → new ≡ then shown (Turned end x)
      → AfterOwnTurn old now new end x
  after_turned new end x rests is = subst (λ (t : Trace S). AfterOwnTurn old now t end x) (sym (own_turned new end x rests is)) (record {
    lasts =
        record {
          rules = refl;
          first = refl;
          grows = omega (arith, length-append (old.events ++ Shown now ∷ []) (Turned end x ∷ []), length-append old.events (Shown now ∷ []));
        };
    longer = omega (arith, length-append (old.events ++ Shown now ∷ []) (Turned end x ∷ []), length-append old.events (Shown now ∷ []));
    lines = refl;
    part = refl;
    found = refl;
    ended = refl;
    own = refl;
    executor = refl;
  })

module _ {S : Type 0} (old : Trace S) (now : ℕ) where
  pub after_sent : (new last : Trace S) (end : TurnEnd) (x : ExecutorView S) → AfterOwnTurn old now new end x → OnlySends new last → AfterOwnTurn old now last end x
  after_sent new last end x after sends = record {
    lasts =
        record {
          rules = sends.lasts.rules ∙ after.lasts.rules;
          first = sends.lasts.first ∙ after.lasts.first;
          grows = let p = after.lasts.grows in let q = sends.lasts.grows in omega (arith, p, q);
        };
    longer = let p = after.longer in let q = sends.lasts.grows in omega (arith, p, q);
    lines = ap (λ (ls : List ReadLine). map (λ l. l.line) ls) sends.lines ∙ after.lines;
    part = sends.part ∙ after.part;
    found = sends.found ∙ after.found;
    ended = sends.ended ∙ after.ended;
    own = sends.own ∙ after.own;
    executor = sends.executor ∙ after.executor;
  }

-- the session knows that turn
since_in : (quiet : Bool) (since now most : ℕ) → since ≤ most → (quiet ≡ false → now ≤ most) → cond quiet since now ≤ most
since_in true since now most before later = before
since_in false since now most before later = later refl

woken_in : (quiet : Bool) → cond quiet false true ≡ true → not quiet ≡ true
woken_in true is = is
woken_in false is = refl

-- by the pause before it and the one after it
pub knows_turn : {S : Type 0} (s : Standing S) (own : OwnTurn) (now : ℕ) (end : TurnEnd) (x : ExecutorView S) (before after : Pause)
    (book : List Entry) → s.trace.state.own ≡ own_turn own now end x → s.own_end ≡ end → s.pause ≡ after → before.moment ≡ now
    → own.since ≤ before.since → book ≡ x.children.book → after.moment ≡ before.moment → before.since ≤ after.since
    → (is_quiet book ≡ false → before.moment ≤ after.since) → after.is_stirred ≡ cond (is_quiet book) false true → KnowsTurn s
knows_turn s own now end x before after book is ended pauses moment since same stays grows later stirred =
    let quiet = is_quiet x.children.book in
    let as_left : is_quiet book ≡ quiet = ap is_quiet same in
    let most : own.since ≤ after.since = omega (arith, since, grows) in
    let later_now : quiet ≡ false → now ≤ after.since = λ (q : quiet ≡ false). let le = later (as_left ∙ q) in omega (arith, le, moment) in record {
      now = ap (λ (p : Pause). p.moment) pauses ∙ stays ∙ moment ∙ sym (ap (λ (o : OwnTurn). o.now) is);
      since =
          subst (λ (n : ℕ). n ≤ s.pause.since) (sym (ap (λ (o : OwnTurn). o.since) is))
          (subst (λ (p : Pause). cond quiet own.since now ≤ p.since) (sym pauses) (since_in quiet own.since now after.since most later_now));
      end = ended ∙ sym (ap (λ (o : OwnTurn). o.end) is);
      stirred = λ does.
          ap (λ (o : OwnTurn). o.woken) is
          ∙ woken_in quiet (ap (λ (b : Bool). cond b false true) (sym as_left) ∙ sym stirred ∙ sym (ap (λ (p : Pause). p.is_stirred) pauses) ∙ does);
    }

-- a turn was made, and the session is as its messages left it
pub makes : {S : Type 0} (old new : Standing S) (now : ℕ) (mid : Trace S) (end : TurnEnd) (x : ExecutorView S) → AfterOwnTurn old.trace now mid end x
    → old.trace.state.found ≡ None → new.trace ≡ mid → new.pending ≡ old.pending → Flows flow.GoesOn new.trace.state → KnowsTurn new
    → MakesOwnTurn old new
makes {S} old new now mid end x before none same pending flows knows =
    let after = subst (λ (t : Trace S). AfterOwnTurn old.trace now t end x) (sym same) before in record {
      pending = pending;
      goes_on = flows;
      knows = knows;
      longer = after.longer;
      lines = after.lines;
      part = after.part;
      found = after.found ∙ none;
      reads = ap (λ (o : OwnTurn). o.reads) after.own;
      polls = ap (λ (o : OwnTurn). o.polls) after.own;
      waits = ap (λ (o : OwnTurn). o.waits) after.own;
    }

-- how it goes on after that, or is over
pub own_goes : {S E : Type 0} (old mid new : Standing S) (result : Result Flow E) → Lasts old.trace mid.trace → Steps mid new result
    → IfOk result (λ so. Flows so new.trace.state) → IfOk result (λ so. so ≡ flow.GoesOn → new.trace ≡ mid.trace)
    → (Flows flow.GoesOn new.trace.state → new.trace ≡ mid.trace → MakesOwnTurn old new) → Goes MakesOwnTurn old new result
own_goes {S} {E} old mid new result lasts steps flows same to =
    goes_so MakesOwnTurn old mid new result lasts steps.continues flows (by result flows same)
  where
    by : (r : Result Flow E) → IfOk r (λ so. Flows so new.trace.state) → IfOk r (λ so. so ≡ flow.GoesOn → new.trace ≡ mid.trace)
        → IfOk r (λ so. so ≡ flow.GoesOn → MakesOwnTurn old new)
    by (Ok flow.GoesOn) flows same = λ is. to flows (same refl)
    by (Ok flow.Over) flows same = λ is. absurd cc
    by (Err why) flows same = tt

-- in `serve` a session with a closed executor does not go on
pub closed_ends : {S : Type 0} (P : Type 0) (old new : Trace S) → old.state.rules.mode ≡ Serve → old.state.executor.is_open ≡ false
    → Flows flow.GoesOn new.state → new ≡ old → P
closed_ends {S} P old new serves closed (at, ended, opens) same =
    let is_open = opens (ap (λ (t : Trace S). t.state.rules.mode) same ∙ serves) in
    absurd (false≢true (sym closed ∙ sym (ap (λ (t : Trace S). t.state.executor.is_open) same) ∙ is_open))
