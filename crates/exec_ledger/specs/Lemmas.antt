-- Lemmas: the effects of two parts of a call, one after the other.
use Rattle.std.specs.Prelude.{◌≡◌, ◌⊎◌, ℕ, ◌+◌, ◌<◌, Bool, true, false, List, [], ◌∷◌, ◌++◌, length, Contains, Ok, Err}
use Rattle.std.specs.List.{list_any}
use Rattle.std.proofs.Common.{inl, inr, ⊎_elim, arith, refl, sym, ◌∙◌, ap, subst, append_assoc}
use Rattle.std.proofs.lemmas.Bool.{or_right}
use Rattle.std.proofs.lemmas.List.{append-nil}
use Rattle.std.proofs.lemmas.List.Elements.{Contains-append_cases, Contains-push_cases}
use Rattle.ocf_model.specs.Due.{Due, due_after}
use Rattle.ocf_types.specs.Kinds.{Event}
use Rattle.ocf_model.specs.StateLemmas.{after_all-append}
use Rattle.ocf_model.specs.State.{State, after, after_all}
use Rattle.ocf_types.specs.Limits.{slot_frame}
use Rattle.store_model.specs.declared.fault.AppendFault.TheVariants.{Disk}
use Rattle.store_model.specs.Lemmas.{joined as runs_joined, left_now, started, weakened}
use Rattle.store_model.specs.Batches.{encoded_batch}
use Rattle.store_model.specs.Crashes.{CrashesTo}
use Rattle.store_model.specs.StoreView.{Lawful, StoreView}
use Rattle.store_model.specs.Calls.{IsSettled, Appends, EitherSide}
use Rattle.child_model.specs.Children.{Asked}
use Rattle.child_model.specs.declared.answer.Entry.{Entry}
use Rattle.exec_ledger.specs.LedgerView.{While}
use Rattle.exec_ledger.specs.Pieces.{AskedOn, Effects, HasBegin, CrashCondition, Prefix, followed_by, is_begin, no_effects, batch_effects}
use Rattle.exec_ledger.specs.BatchStarts.{due_after_all, tail_after_all}

-- `While` is its first statement where something is open, and its second where it is closed
pub while_open : {b : Bool} {R : Type 0} (S : Type 0) → b ≡ true → R → While b R S
while_open {R = R} S is here = subst (λ (b : Bool). While b R S) (sym is) here

pub while_closed : {b : Bool} (R : Type 0) {S : Type 0} → b ≡ false → S → While b R S
while_closed R {S = S} is here = subst (λ (b : Bool). While b R S) (sym is) here

pub of_open : {b : Bool} (R S : Type 0) → b ≡ true → While b R S → R
of_open R S is here = subst (λ (b : Bool). While b R S) is here

pub of_closed : {b : Bool} (R S : Type 0) → b ≡ false → While b R S → S
of_closed R S is here = subst (λ (b : Bool). While b R S) is here

-- equal effects, part by part
pub same_entries : {a b : Effects} → a ≡ b → a.entries ≡ b.entries
same_entries is = ap (λ (d : Effects). d.entries) is

pub same_events : {a b : Effects} → a ≡ b → a.events ≡ b.events
same_events is = ap (λ (d : Effects). d.events) is

pub same_pending : {a b : Effects} → a ≡ b → a.pending ≡ b.pending
same_pending is = ap (λ (d : Effects). d.pending) is

-- the due moments after two lists of events
pub due_after_all-append : (s : State) (due : Due) (es fs : List Event)
    → due_after_all s due (es ++ fs) ≡ due_after_all (after_all s es) (due_after_all s due es) fs
due_after_all-append s due [] fs = refl
due_after_all-append s due (e ∷ es) fs = due_after_all-append (after s e) (due_after s due e) es fs

-- a prefix of some events is a prefix of more
widened : (s : State) (es fs : List Event) (x : State) → Prefix s es x → Prefix s (es ++ fs) x
widened s es fs x h = (h.0, h.1 ++ fs, sym (append_assoc h.0 h.1 fs) ∙ ap (λ (l : List Event). l ++ fs) h.2, h.3)

-- all of some events, and then a prefix of more, are a prefix of both
shifted : (s : State) (es fs : List Event) (x : State) → Prefix (after_all s es) fs x → Prefix s (es ++ fs) x
shifted s es fs x h =
    (es ++ h.0, h.1, append_assoc es h.0 h.1 ∙ ap (λ (l : List Event). es ++ l) h.2, h.3 ∙ sym (after_all-append s es h.0))

-- all of some events, or none, are a prefix of them
either : (s : State) (es : List Event) (x : State) → EitherSide s es x → Prefix s es x
either s es x (inl same) = ([], es, refl, same)
either s es x (inr more) = (es, [], append-nil es, more)

-- a begin among the later events is among all
pub has_later : (run : ℕ) (es fs : List Event) → HasBegin run fs → HasBegin run (es ++ fs)
has_later run [] fs h = h
has_later run (e ∷ es) fs h = or_right (is_begin run e.change) (list_any (λ e. is_begin run e.change) (es ++ fs)) (has_later run es fs h)

-- a start that was asked in a part of a call was asked in the whole, whatever is recorded after that part and before it
asked_before : {S : Type 0} (view : S → StoreView) (old mid new : S) (s : State) (es fs : List Event) (run clock : ℕ)
    → AskedOn view old mid s es run clock → CrashesTo (view mid) (view new) (Prefix (after_all s es) fs)
    → AskedOn view old new s (es ++ fs) run clock
asked_before view old mid new s es fs run clock asked crash =
    let a = asked.first in
    let b = asked.rest in
    let t : State = after_all s a in
    let split : after_all s es ≡ after_all t b = ap (λ (l : List Event). after_all s l) (sym asked.split) ∙ after_all-append s a b in record {
      store = asked.store;
      first = a;
      rest = b ++ fs;
      split = sym (append_assoc a b fs) ∙ ap (λ (l : List Event). l ++ fs) asked.split;
      begins = asked.begins;
      counted = asked.counted;
      before = asked.before;
      holds = asked.holds;
      following = runs_joined (view asked.store) (view mid) (view new) (Prefix t (b ++ fs))
          (weakened (view asked.store) (view mid) (Prefix t b) (Prefix t (b ++ fs)) (λ h c p. widened t b fs c p) asked.following)
          (weakened (view mid) (view new) (Prefix (after_all s es) fs) (Prefix t (b ++ fs))
          (λ h c p. shifted t b fs c (subst (λ (u : State). Prefix u fs c) split p)) crash);
    }

asked_later : {S : Type 0} (view : S → StoreView) (old mid new : S) (s : State) (es fs : List Event) (run clock : ℕ)
    → CrashesTo (view old) (view mid) (Prefix s es) → AskedOn view mid new (after_all s es) fs run clock
    → AskedOn view old new s (es ++ fs) run clock
asked_later view old mid new s es fs run clock crash asked =
    let a = asked.first in
    let back : after_all (after_all s es) a ≡ after_all s (es ++ a) = sym (after_all-append s es a) in record {
      store = asked.store;
      first = es ++ a;
      rest = asked.rest;
      split = append_assoc es a asked.rest ∙ ap (λ (l : List Event). es ++ l) asked.split;
      begins = has_later run es a asked.begins;
      counted = asked.counted;
      before = runs_joined (view old) (view mid) (view asked.store) (Prefix s (es ++ a))
          (weakened (view old) (view mid) (Prefix s es) (Prefix s (es ++ a)) (λ h c p. widened s es a c p) crash)
          (weakened (view mid) (view asked.store) (Prefix (after_all s es) a) (Prefix s (es ++ a)) (λ h c p. shifted s es a c p) asked.before);
      holds = λ h x now. asked.holds h x now ∙ back;
      following = subst (λ (u : State). CrashesTo (view asked.store) (view new) (Prefix u asked.rest)) back asked.following;
    }

-- a start that is in two lists of entries together is in one of them
pub asked_in : (es fs : List Entry) (run clock : ℕ) → Asked (es ++ fs) run clock → Asked es run clock ⊎ Asked fs run clock
asked_in es fs run clock h =
    ⊎_elim (λ x. inl (h.0, h.1, x)) (λ y. inr (h.0, h.1, y))
    (Contains-append_cases es fs (record { run = run; at = clock; answer = h.0 }) h.2)

-- Two parts of a call, one after the other, of which the first left nothing pending.
pub joined : {S : Type 0} (view : S → StoreView) (old mid new : S) (s t u : State) (a b : Effects) → a.pending ≡ [] → CrashCondition view old mid s t a
    → CrashCondition view mid new t u b → CrashCondition view old new s u (followed_by a b)
joined view old mid new s t u a b none one two =
    let later : CrashCondition view mid new (after_all s a.events) u b = subst (λ (x : State). CrashCondition view mid new x u b) one.state two in
    let all = b.events ++ b.pending in
    let first_is : a.events ++ a.pending ≡ a.events = ap (λ (l : List Event). a.events ++ l) none ∙ append-nil a.events in
    let grouped : a.events ++ all ≡ (a.events ++ b.events) ++ (a.pending ++ b.pending) = sym (append_assoc a.events b.events b.pending)
    ∙ ap (λ (l : List Event). (a.events ++ b.events) ++ (l ++ b.pending)) (sym none) in
    let first : CrashesTo (view old) (view mid) (Prefix s a.events) =
    subst (λ (l : List Event). CrashesTo (view old) (view mid) (Prefix s l)) first_is one.crash in
    let before : CrashesTo (view old) (view mid) (Prefix s (a.events ++ all)) =
    weakened (view old) (view mid) (Prefix s a.events) (Prefix s (a.events ++ all)) (λ h c p. widened s a.events all c p) first in
    let following : CrashesTo (view mid) (view new) (Prefix s (a.events ++ all)) =
    weakened (view mid) (view new) (Prefix (after_all s a.events) all) (Prefix s (a.events ++ all)) (λ h c p. shifted s a.events all c p)
    later.crash in record {
      state = later.state ∙ sym (after_all-append s a.events b.events);
      crash =
          subst (λ (l : List Event). CrashesTo (view old) (view new) (Prefix s l)) grouped
          (runs_joined (view old) (view mid) (view new) (Prefix s (a.events ++ all)) before following);
      now = λ h c left. subst (λ (l : List Event). EitherSide u (l ++ b.pending) c) (sym none) (later.now h c left);
      starts = λ run clock asked. subst (λ (l : List Event). AskedOn view old new s l run clock) grouped (⊎_elim
          (λ x. asked_before view old mid new s a.events all run clock
          (subst (λ (l : List Event). AskedOn view old mid s l run clock) first_is (one.starts run clock x)) later.crash)
          (λ y. asked_later view old mid new s a.events all run clock first (later.starts run clock y))
          (asked_in a.entries b.entries run clock asked));
    }

-- no entry is no start
pub asked_none : (run clock : ℕ) → Asked [] run clock → ⊥
asked_none run clock h = let none = h.2.1 in omega (arith, none)

-- Entries that are no starts may be added to a part without entries.
pub reported_then : {S : Type 0} (view : S → StoreView) (old new : S) (s t : State) (es : List Entry) (events pending : List Event)
    → ((run clock : ℕ) → Asked es run clock → ⊥)
    → CrashCondition view old new s t (record { entries = []; events = events; pending = pending })
    → CrashCondition view old new s t (record { entries = es; events = events; pending = pending })
reported_then view old new s t es events pending none leaves = record {
  state = leaves.state;
  crash = leaves.crash;
  now = leaves.now;
  starts = λ run clock asked. absurd (none run clock asked);
}

pub asked_one : (e x : Entry) → Contains (e ∷ []) x → e ≡ x
asked_one e x h = ⊎_elim (λ none. let bad = none.1 in absurd (omega (arith, bad))) (λ same. same) (Contains-push_cases [] e x h)

-- a crash after a part that left nothing pending leaves its state
pub settles : {S : Type 0} (view : S → StoreView) (old new : S) (s t : State) (did : Effects) → did.pending ≡ [] → CrashCondition view old new s t did
    → (view new).honest → (x : State) → (view new).leaves (view new).clock x → x ≡ t
settles view old new s t did none leaves h x now =
    ⊎_elim (λ a. a) (λ b. b) (subst (λ (l : List Event). EitherSide t l x) none (leaves.now h x now))

-- no effects over a store that holds this state
pub settled_leaves : {S : Type 0} (view : S → StoreView) (k : S) (s : State) → ((view k).honest → Lawful (view k)) → IsSettled (view k) s
    → CrashCondition view k k s s no_effects
settled_leaves view k s lawful settled = record {
  state = refl;
  crash = started (view k) (Prefix s []) (λ h x left. ([], [], refl, (lawful h).held s x (settled h) left));
  now = λ h x left. inl ((lawful h).held s x (settled h) left);
  starts = λ run clock asked. absurd (asked_none run clock asked);
}

-- a batch that was recorded
pub appended : {S : Type 0} (view : S → StoreView) (old new : S) (s t : State) (es : List Event) (u : Unit {0}) → ((view new).honest → Lawful (view new))
    → Appends (view old) (view new) s es (Ok u) → t ≡ after_all s es → CrashCondition view old new s t (batch_effects true es)
appended view old new s t es u lawful appends state = record {
  state = state;
  crash =
      subst (λ (l : List Event). CrashesTo (view old) (view new) (Prefix s l)) (sym (append-nil es))
      (weakened (view old) (view new) (EitherSide s es) (Prefix s es) (λ h x found. either s es x found) appends.crash);
  now = λ h x left. inl ((lawful h).held (after_all s es) x (appends.settled h) left ∙ sym state);
  starts = λ run clock asked. absurd (asked_none run clock asked);
}

-- one that met a fault: it was recorded whole or not at all
pub not_appended : {S : Type 0} (view : S → StoreView) (old new : S) (s t : State) (es : List Event) → ((view new).honest → Lawful (view new))
    → Appends (view old) (view new) s es (Err Disk) → t ≡ s → CrashCondition view old new s t (batch_effects false es)
not_appended view old new s t es lawful appends state = record {
  state = state;
  crash = weakened (view old) (view new) (EitherSide s es) (Prefix s es) (λ h x found. either s es x found) appends.crash;
  now = λ h x left. subst (λ (y : State). EitherSide y es x) (sym state)
      (left_now (view old) (view new) (EitherSide s es) appends.crash lawful h x left);
  starts = λ run clock asked. absurd (asked_none run clock asked);
}

-- the offset after a batch that is not empty is that after its record
pub after_some : (tail : ℕ) (es : List Event) → 0 < length es → tail_after_all tail es ≡ tail + (slot_frame + length (encoded_batch es))
after_some tail [] some = absurd (omega (arith, some))
after_some tail (e ∷ es) some = refl
