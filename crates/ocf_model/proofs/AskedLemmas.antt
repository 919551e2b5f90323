-- The event of a lawful command in a lawful state applies there.
use Rattle.std.proofs.Common.{◌≡◌, ℕ, ◌≤◌, Bool, false, length, Option, Some, None, Ok, IsSome, IsSomeAnd}
use Rattle.std.proofs.Common.{is_some, is_none, IsTrue, leb, refl, sym, subst, arith}
use Rattle.std.specs.List.{AllByRecursion}
use Rattle.std.specs.Option.{option_map_or}
use Rattle.std.proofs.lemmas.Bool.{leb-false, ltb-false, eqb-false}
use Rattle.ocf_types.specs.declared.command.CommandOf.TheVariants as command
use Rattle.ocf_types.specs.declared.event.Step.TheVariants as step
use Rattle.ocf_types.specs.declared.event.Change.TheVariants as change
use Rattle.ocf_types.specs.declared.operation.Op.{Op}
use Rattle.ocf_types.specs.declared.operation.Recur.{Recur}
use Rattle.ocf_types.specs.Kinds.{Change, Event, Command}
use Rattle.ocf_types.specs.Numbers.{IsMoment}
use Rattle.ocf_types.specs.Lawful.{IsLawfulChange, IsLawfulCommand}
use Rattle.ocf_types.specs.Encoding.{encoded_event, HasNoParams}
use Rattle.ocf_model.specs.Resource.{Resource, is_busy, of_interval, queued_of}
use Rattle.ocf_model.specs.State.{State, resource_at, IsRegistration}
use Rattle.ocf_model.specs.Applies.{Applies, ChangeApplies, StepApplies, IsNext}
use Rattle.ocf_model.specs.Boot.{any_busy, boot_at}
use Rattle.ocf_model.specs.Answer.{moment, change_of, IsRegister, asked_event, tests, event_of}
use Rattle.ocf_model.specs.LawfulState.{IsLawfulState}
use Rattle.ocf_model.specs.RegistryLemmas.{none_is, passed}
use Rattle.ocf_model.proofs.Lengths.{event_short}

module _ {A : Type 0} where
  -- an option that does not test as `None` has a value
  pub some_is : (o : Option A) → is_none o ≡ false → IsSome o
  some_is None h = absurd (cc)
  some_is (Some x) h = refl

  -- a test that does not hold for an option fails for its value
  pub fails_at : (o : Option A) (test : A → Bool) → is_none o ≡ false → option_map_or test o false ≡ false
      → IsSomeAnd o (λ x. test x ≡ false)
  fails_at None test n h = absurd (cc)
  fails_at (Some x) test n h = h

  -- a property of every value holds for the value of an option
  pub holds_of : (o : Option A) (P : A → Type 0) → is_none o ≡ false → ((x : A) → P x) → IsSomeAnd o P
  holds_of None P n h = absurd (cc)
  holds_of (Some x) P n h = h x

  -- a property of an option's value implies a weaker one
  pub weaker_of : (o : Option A) (P Q : A → Type 0) → ((x : A) → P x → Q x) → IsSomeAnd o P → IsSomeAnd o Q
  weaker_of None P Q f h = absurd h
  weaker_of (Some x) P Q f h = f x h

  -- two properties of an option's value
  pub both_of : (o : Option A) (P Q : A → Type 0) → IsSomeAnd o P → IsSomeAnd o Q → IsSomeAnd o (λ x. P x × Q x)
  both_of None P Q g h = absurd h
  both_of (Some x) P Q g h = (g, h)

-- the moment of the next event is a lawful one
pub moment_is : (s : State) (now : ℕ) → IsLawfulState s → IsMoment (moment s now)
moment_is s now h = omega (arith, h.clock)

-- an event at that moment applies if its change is lawful and applies, and its encoding is not too long
applies_now : (s : State) (now : ℕ) (c : Change) → IsLawfulState s → IsLawfulChange c
    → length (encoded_event (record { at = moment s now; change = c })) ≤ 16384 → ChangeApplies s c
    → Applies s (record { at = moment s now; change = c })
applies_now s now c h l short a = record {
  encoded = record { lawful = record { at = moment_is s now h; change = l }; short = short };
  later = omega arith;
  change = a;
}

-- the same for a change without parameters, which is never too long
applies_small : (s : State) (now : ℕ) (c : Change) → IsLawfulState s → IsLawfulChange c → HasNoParams c → ChangeApplies s c
    → Applies s (record { at = moment s now; change = c })
applies_small s now c h l small a = applies_now s now c h l (omega (arith, event_short (moment s now) c l small)) a

-- a next call id that is not spent is the next one
next_is : (s : State) → IsLawfulState s → (s.next_call ≡ 9007199254740991 → ⊥) → IsNext s.next_call s.next_call
next_is s h unspent = (refl, omega (arith, h.next_call.1, unspent))

-- the event that is asked for applies if no test for a refusal holds
pub asked_applies : (s : State) (now : ℕ) (c : Command) → IsLawfulState s → IsLawfulCommand c
    → AllByRecursion (λ t. t.1 ≡ false) (tests s c (length (encoded_event (asked_event s now c)))) → Applies s (asked_event s now c)
asked_applies s now (command.Register r) h l p =
    applies_now s now (change.Register r) h l (ltb-false _ _ p.1.1.0) (none_is (resource_at s r.id) p.0, leb-false _ _ p.1.0)
asked_applies s now (command.Unregister id) h l p =
    applies_small s now (change.Unregister id) h l tt (fails_at (resource_at s id) (λ r. is_busy r.history) p.0 p.1.0)
asked_applies s now (command.SetParams id ps) h l p =
    applies_now s now (change.Step id (step.SetParams ps)) h l (ltb-false _ _ p.1.0)
    (holds_of (resource_at s id) (λ r. Unit {0}) p.0 (λ r. tt))
asked_applies s now (command.Exec id t timeout) h l p =
    let o : Op = record { call = s.next_call; task = t; timeout = timeout } in
    let next : IsNext s.next_call s.next_call = next_is s h (eqb-false _ _ p.1.1.0) in
    let room = fails_at (resource_at s id) (λ r. leb 32 (length r.history.queue)) p.0 p.1.0 in
    let has_room = λ (r : Resource). leb 32 (length r.history.queue) ≡ false in
    let there = weaker_of (resource_at s id) has_room (StepApplies s.next_call s.next_run (step.Exec o))
    (λ r q. (leb-false _ _ q, next)) room in
    applies_small s now (change.Step id (step.Exec o)) h (l.0, (h.next_call, l.1, tt, l.2)) tt there
asked_applies s now (command.Recur id interval timeout check) h l p =
    let m : Recur = record { call = s.next_call; interval = interval; timeout = timeout; check = check } in
    let next : IsNext s.next_call s.next_call = next_is s h (eqb-false _ _ p.1.1.1.0) in
    let is_fresh = λ (r : Resource). is_some (of_interval interval r.recurring) ≡ false in
    let has_room = λ (r : Resource). leb 8 (length r.recurring) ≡ false in
    let fresh = fails_at (resource_at s id) (λ r. is_some (of_interval interval r.recurring)) p.0 p.1.0 in
    let room = fails_at (resource_at s id) (λ r. leb 8 (length r.recurring)) p.0 p.1.1.0 in
    let there = weaker_of (resource_at s id) (λ r. is_fresh r × has_room r) (StepApplies s.next_call s.next_run (step.Recur m))
    (λ r q. (leb-false _ _ q.1, none_is (of_interval interval r.recurring) q.0, next))
    (both_of (resource_at s id) is_fresh has_room fresh room) in
    applies_small s now (change.Step id (step.Recur m)) h (l.0, (h.next_call, l.1, l.2, tt)) tt there
asked_applies s now (command.Cancel id interval) h l p =
    let is_there = λ (r : Resource). is_none (of_interval interval r.recurring) ≡ false in
    let found = fails_at (resource_at s id) (λ r. is_none (of_interval interval r.recurring)) p.0 p.1.0 in
    let there = weaker_of (resource_at s id) is_there (StepApplies s.next_call s.next_run (step.Cancel interval))
    (λ r q. some_is (of_interval interval r.recurring) q) found in
    applies_small s now (change.Step id (step.Cancel interval)) h l tt there
asked_applies s now (command.Forget id) h l p =
    applies_small s now (change.Step id step.Forget) h (l, tt) tt (holds_of (resource_at s id) (λ r. Unit {0}) p.0 (λ r. tt))
asked_applies s now (command.Withdraw id call) h l p =
    let is_there = λ (r : Resource). is_none (queued_of call r.history.queue) ≡ false in
    let found = fails_at (resource_at s id) (λ r. is_none (queued_of call r.history.queue)) p.0 p.1.0 in
    let there = weaker_of (resource_at s id) is_there (StepApplies s.next_call s.next_run (step.Withdraw call))
    (λ r q. some_is (queued_of call r.history.queue) q) found in
    applies_small s now (change.Step id (step.Withdraw call)) h (l.0, (l.1, tt)) tt there

-- the event of a lawful command in a lawful state applies there
pub event_applies : (s : State) (now : ℕ) (c : Command) (e : Event) → IsLawfulState s → IsLawfulCommand c → event_of s now c ≡ Ok e
    → Applies s e
event_applies s now c e h l is =
    let p = passed (tests s c (length (encoded_event (asked_event s now c)))) (asked_event s now c) e is in
    subst (λ (x : Event). Applies s x) p.0 (asked_applies s now c h l p.1)

-- a boot that is needed applies at a moment that is not before the clock
pub boot_applies : (s : State) (at : ℕ) → s.clock ≤ at → at ≤ 9007199254740991 → IsTrue (any_busy s) → Applies s (boot_at at)
boot_applies s at later le busy = record {
  encoded = record { lawful = record { at = le; change = tt }; short = omega (arith, event_short at change.Boot tt tt) };
  later = later;
  change = busy;
}

-- only a command to register asks for a registration
asks_to_register : (call : ℕ) (c : Command) → IsRegistration (change_of call c) → IsRegister c
asks_to_register call (command.Register r) h = tt
asks_to_register call _ h = absurd h

pub registers : (s : State) (now : ℕ) (c : Command) (e : Event) → event_of s now c ≡ Ok e → IsRegistration e.change → IsRegister c
registers s now c e is h =
    let p = passed (tests s c (length (encoded_event (asked_event s now c)))) (asked_event s now c) e is in
    asks_to_register s.next_call c (subst (λ (x : Event). IsRegistration x.change) (sym p.0) h)
