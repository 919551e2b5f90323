-- The effects of a request, and its reply.
use Rattle.std.proofs.Common.{◌≡◌, ◌⊎◌, inl, inr, ℕ, ◌≤◌, true, false, List, [], ◌∷◌, length, Some, Result, Ok, Err, le_of_eq, refl, sym, ap, subst, ◌∙◌}
use Rattle.std.proofs.Math.Nat.{max-eq_right}
use Rattle.std.specs.List.{AllByRecursion}
use Rattle.ocf_model.specs.Answer.{asked_event, change_of, event_of, moment, tests}
use Rattle.ocf_model.specs.Due.{Due}
use Rattle.ocf_types.specs.Kinds.{Change, Command, Event}
use Rattle.ocf_model.specs.Answer.{Reply}
use Rattle.ocf_types.specs.Encoding.{encoded_event}
use Rattle.ocf_model.specs.State.{State, after, after_all, named, resource_at}
use Rattle.ocf_types.specs.declared.command.CommandOf.TheVariants as command
use Rattle.ocf_types.specs.declared.command.RequestOf.TheVariants as asked
use Rattle.ocf_types.specs.declared.event.Change.TheVariants as change
use Rattle.ocf_types.specs.declared.event.Step.TheVariants as step
use Rattle.ocf_model.specs.declared.refusal.Refusal.{Refusal}
use Rattle.ocf_model.specs.declared.refusal.Refusal.TheVariants as refusal
use Rattle.ocf_model.specs.declared.reply.ReplyOf.TheVariants.{Refused}
use Rattle.ocf_model.specs.RegistryLemmas.{none_is, passed}
use Rattle.exec_ledger.specs.BatchStarts.{due_after_all}
use Rattle.exec_ledger.specs.Commands.{Obeys, Records}
use Rattle.executor_laws.specs.Projections.{IsPlain, commanded}
use Rattle.exec_ledger.specs.Replies.{IsReplyTo, KeepsRunning, acknowledged, recorded}
use Rattle.exec_ledger.specs.Together.{Adds}
use Rattle.exec_ledger.specs.Pieces.{Effects, batch_effects}
use Rattle.executor.specs.Sessions.{TakesRequest, command_effects}
use Rattle.executor.specs.CallLemmas.{same_view}
use Rattle.executor.specs.ExecutorView.{ExecutorView, due_in, ledger_of}
use Rattle.executor_laws.specs.Isolated.{Follows, cut}
use Rattle.executor_laws.proofs.Isolation.Changes.{AreFresh, IsFresh}
use Rattle.store_model.specs.StoreView.{StoreView}

-- the parts of an executor that the machine of one resource depends on
pub record Seen : Type 0 where
  pub state : State
  pub due : Due

abbrev pub seen : {S : Type 0} → ExecutorView S → Seen
seen x = record { state = x.state; due = due_in x }

-- the same after these events
abbrev pub seen_after : Seen → List Event → Seen
seen_after x es = record { state = after_all x.state es; due = due_after_all x.state x.due es }

-- the effects of a call: the state and the due moments are those after its events, which are new, and no later than this moment
pub record Does (at : ℕ) (old new : Seen) (es : List Event) : Type 0 where
  pub state : new.state ≡ after_all old.state es
  pub due : new.due ≡ due_after_all old.state old.due es
  pub next : AreFresh old.state es
  pub clock : new.state.clock ≤ at

-- where moments do not go back, a moment is the one that is handed in
pub moment_is : (s : State) (now : ℕ) → s.clock ≤ cut now → moment s now ≡ cut now
moment_is s now h = max-eq_right h

-- a call that left the executor as it was
pub rested : (at : ℕ) (old new : Seen) → old.state.clock ≤ at → new ≡ old → Does at old new []
rested at old new clock same = record {
  state = ap (λ (x : Seen). x.state) same;
  due = ap (λ (x : Seen). x.due) same;
  next = tt;
  clock = subst (λ (x : Seen). x.state.clock ≤ at) (sym same) clock;
}

-- the event is acknowledged, or refused for a shortage that resources share
abbrev IsRefused : Reply → Type 0
IsRefused reply = (why : Refusal) × (reply ≡ Refused why) × (IsPlain (Refused why) → ⊥)

reported_or_refused : (e : Event) (reply : Reply) → IsReplyTo e reply → (reply ≡ acknowledged e.change) ⊎ IsRefused reply
reported_or_refused e reply (inl reported) = inl reported
reported_or_refused e reply (inr (inl full)) = inr (refusal.JournalFull, full, λ h. h)
reported_or_refused e reply (inr (inr (inl memory))) = inr (refusal.Memory, memory, λ h. h)
reported_or_refused e reply (inr (inr (inr disk))) = inr (refusal.Disk, disk, λ h. h)

-- the event that is acknowledged is recorded
reported_done : (e : Event) (c : Change) → recorded e (acknowledged c) ≡ e ∷ []
reported_done e (change.Step i (step.Exec o)) = refl
reported_done e (change.Step i (step.Recur m)) = refl
reported_done e _ = refl

-- the event that a command asks for is new where no test held, and names the resource that the command is about
asked_fresh : (s : State) (c : Command) (size : ℕ) → AllByRecursion (λ t. t.1 ≡ false) (tests s c size)
    → IsFresh s (change_of s.next_call c)
asked_fresh s (command.Register r) size h = none_is (resource_at s r.id) h.0
asked_fresh s (command.Exec i task timeout) size h = refl
asked_fresh s (command.Recur i interval timeout level) size h = refl
asked_fresh s _ size h = tt

-- and begins and ends nothing
asked_keeps : (call : ℕ) (c : Command) → KeepsRunning (change_of call c)
asked_keeps call (command.Register r) = tt
asked_keeps call _ = tt

abbrev pub AllKeep : List Event → Type 0
AllKeep es = AllByRecursion (λ e. KeepsRunning e.change) es

asked_names : (call : ℕ) (c : Command) → named (change_of call c) ≡ Some (commanded c)
asked_names call (command.Register r) = refl
asked_names call _ = refl

-- these events name this resource
abbrev pub AllName : List ℕ → List Event → Type 0
AllName id es = AllByRecursion (λ e. named e.change ≡ Some id) es

-- the event that a command is names its resource, is new, and has the moment that is passed in
one_names : (s : State) (now : ℕ) (c : Command) (e : Event) → event_of s now c ≡ Ok e → AllName (commanded c) (e ∷ [])
one_names s now c e is =
    let went = passed (tests s c (length (encoded_event (asked_event s now c)))) (asked_event s now c) e is in
    subst (λ (f : Event). AllName (commanded c) (f ∷ [])) went.0 (asked_names s.next_call c, tt)

one_keeps : (s : State) (now : ℕ) (c : Command) (e : Event) → event_of s now c ≡ Ok e → AllKeep (e ∷ [])
one_keeps s now c e is =
    let went = passed (tests s c (length (encoded_event (asked_event s now c)))) (asked_event s now c) e is in
    subst (λ (f : Event). AllKeep (f ∷ [])) went.0 (asked_keeps s.next_call c, tt)

one_fresh : (s : State) (now : ℕ) (c : Command) (e : Event) → event_of s now c ≡ Ok e → AreFresh s (e ∷ [])
one_fresh s now c e is =
    let size = length (encoded_event (asked_event s now c)) in
    let went = passed (tests s c size) (asked_event s now c) e is in
    subst (λ (f : Event). AreFresh s (f ∷ [])) went.0 (asked_fresh s c size went.1, tt)

one_clock : (s : State) (now : ℕ) (c : Command) (e : Event) → event_of s now c ≡ Ok e → s.clock ≤ cut now → e.at ≤ cut now
one_clock s now c e is clock =
    let went = passed (tests s c (length (encoded_event (asked_event s now c)))) (asked_event s now c) e is in
    subst (λ (f : Event). f.at ≤ cut now) went.0 (le_of_eq (moment_is s now clock))

-- The effects of a command, and its reply where that is plain.
pub record Commands (now : ℕ) (c : Command) (old new : Seen) (reply : Reply) (effects : Effects) : Type 0 where
  pub no_entries : effects.entries ≡ []
  pub names : AllName (commanded c) effects.events
  pub does : Does (cut now) old new effects.events
  pub keep : AllByRecursion (λ e. KeepsRunning e.change) effects.events
  pub follows : IsPlain reply → Follows (event_of old.state now c) reply effects.events

pub commands : {S : Type 0} (view : S → StoreView) (now : ℕ) (c : Command) (old new : ExecutorView S) (reply : Reply) (effects : Effects)
    → old.state.clock ≤ cut now
    → TakesRequest view now (asked.Command c) old new reply effects → Commands now c (seen old) (seen new) reply effects
commands {S} view now c old new reply effects clock takes =
    subst (λ (x : Effects). Commands now c (seen old) (seen new) reply x) (sym takes.does) (by (event_of old.state now c) refl takes.serves.0)
  where
    by_reply : (e : Event) → event_of old.state now c ≡ Ok e → Records view e (ledger_of old) (ledger_of new) reply
        → (reply ≡ acknowledged e.change) ⊎ IsRefused reply → Commands now c (seen old) (seen new) reply (command_effects (Ok e) reply)
    by_reply e is serves (inl reported) =
        let batch : recorded e reply ≡ e ∷ [] = ap (recorded e) reported ∙ reported_done e e.change in
        let after_one : new.state ≡ after old.state e = serves.crash.state ∙ ap (after_all old.state) batch in record {
          no_entries = refl;
          names = subst (AllName (commanded c)) (sym batch) (one_names old.state now c e is);
          does = record {
            state = serves.crash.state;
            due = serves.due;
            next = subst (AreFresh old.state) (sym batch) (one_fresh old.state now c e is);
            clock = subst (λ (x : State). x.clock ≤ cut now) (sym after_one) (one_clock old.state now c e is clock);
          };
          keep = subst AllKeep (sym batch) (one_keeps old.state now c e is);
          follows = λ plain. subst (λ (w : Result Event Refusal). Follows w reply (recorded e reply)) (sym is) (reported, batch);
        }
    by_reply e is serves (inr (why, refused, shared)) =
        let batch : recorded e reply ≡ [] = ap (recorded e) refused in
        let still : new.state ≡ old.state = serves.crash.state ∙ ap (after_all old.state) batch in record {
          no_entries = refl;
          names = subst (AllName (commanded c)) (sym batch) tt;
          does = record {
            state = serves.crash.state;
            due = serves.due;
            next = subst (AreFresh old.state) (sym batch) tt;
            clock = subst (λ (x : State). x.clock ≤ cut now) (sym still) clock;
          };
          keep = subst AllKeep (sym batch) tt;
          follows = λ plain. absurd (shared (subst IsPlain refused plain));
        }

    by : (v : Result Event Refusal) → event_of old.state now c ≡ v → Obeys view v (ledger_of old) (ledger_of new) reply
        → Commands now c (seen old) (seen new) reply (command_effects v reply)
    by (Err why) is serves = record {
      no_entries = refl;
      names = tt;
      does = rested (cut now) (seen old) (seen new) clock (ap seen (same_view old new serves.1 takes.serves.1));
      keep = tt;
      follows = λ plain. subst (λ (w : Result Event Refusal). Follows w reply []) (sym is) (serves.0, refl);
    }
    by (Ok e) is serves = by_reply e is serves (reported_or_refused e reply serves.reported)

-- the same of a command of a batch
pub added : (now : ℕ) (c : Command) (old : Seen) (reply : Reply) (first : List Event) → old.state.clock ≤ cut now
    → Adds (event_of old.state now c) reply first → Commands now c old (seen_after old first) reply (batch_effects true first)
added now c old reply first clock adds = by (event_of old.state now c) refl adds
  where
    none_added : (found : Result Event Refusal) → event_of old.state now c ≡ found → first ≡ [] → (IsPlain reply → Follows found reply first)
        → Commands now c old (seen_after old first) reply (batch_effects true first)
    none_added found is none follows = record {
      no_entries = refl;
      names = subst (AllName (commanded c)) (sym none) tt;
      does = record {
        state = refl;
        due = refl;
        next = subst (AreFresh old.state) (sym none) tt;
        clock = subst (λ (es : List Event). (after_all old.state es).clock ≤ cut now) (sym none) clock;
      };
      keep = subst AllKeep (sym none) tt;
      follows = λ plain. subst (λ (w : Result Event Refusal). Follows w reply first) (sym is) (follows plain);
    }

    by : (found : Result Event Refusal) → event_of old.state now c ≡ found → Adds found reply first
        → Commands now c old (seen_after old first) reply (batch_effects true first)
    by (Err why) is refused = none_added (Err why) is refused.1 (λ plain. refused)
    by (Ok e) is (inr memory) = none_added (Ok e) is memory.2 (λ plain. absurd (subst IsPlain memory.0 plain))
    by (Ok e) is (inl reported) = record {
      no_entries = refl;
      names = subst (AllName (commanded c)) (sym reported.1) (one_names old.state now c e is);
      does = record {
        state = refl;
        due = refl;
        next = subst (AreFresh old.state) (sym reported.1) (one_fresh old.state now c e is);
        clock =
            subst (λ (es : List Event). (after_all old.state es).clock ≤ cut now) (sym reported.1) (one_clock old.state now c e is clock);
      };
      keep = subst AllKeep (sym reported.1) (one_keeps old.state now c e is);
      follows = λ plain. subst (λ (w : Result Event Refusal). Follows w reply first) (sym is) reported;
    }
