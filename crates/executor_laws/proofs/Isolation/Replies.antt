-- The replies of the machine of one resource to requests that are about it.
use Rattle.std.proofs.Common.{◌≡◌, ◌⊎◌, ℕ, ◌≤◌, Bool, true, false, List, [], ◌∷◌, ◌++◌, length, Option, Result, Err, refl, sym, ap, subst, ◌∙◌, inl, inr, ⊎_elim}
use Rattle.std.proofs.lemmas.Slice.Eq.{bytes_eq-Decides}
use Rattle.ocf_model.specs.Answer.{asked_event, change_of, event_of, first_of, reply_to, tests}
use Rattle.ocf_types.specs.Kinds.{Command, Event}
use Rattle.ocf_model.specs.Answer.{Reply}
use Rattle.ocf_model.specs.Resource.{Resource}
use Rattle.ocf_types.specs.Encoding.{encoded_event}
use Rattle.ocf_model.specs.State.{State, resource_at}
use Rattle.ocf_types.specs.declared.command.CommandOf.TheVariants as command
use Rattle.ocf_types.specs.declared.command.Question.{Question}
use Rattle.ocf_types.specs.declared.command.Question.TheVariants as question
use Rattle.ocf_types.specs.declared.command.RequestOf.TheVariants as asked
use Rattle.ocf_model.specs.declared.refusal.Refusal.{Refusal}
use Rattle.ocf_model.specs.declared.refusal.Refusal.TheVariants as refusal
use Rattle.ocf_model.specs.declared.reply.ReplyOf.TheVariants as reply
use Rattle.exec_state.specs.Answers.{IsReplyOrMemory}
use Rattle.executor_laws.specs.Projections.{IsPlain, commanded, is_about}
use Rattle.executor_laws.specs.Isolated.{Follows, Isolated, IsolatedCommand, cut, isolated_answer, isolated_event, isolated_tests}
use Rattle.executor_laws.proofs.Isolation.Requests.{moment_is}

-- refused for a shortage that resources share
abbrev IsGrouped : Result Event Refusal → Type 0
IsGrouped v = (why : Refusal) × (v ≡ Err why) × (IsPlain (reply.Refused why) → ⊥)

-- all call ids are spent, or the other tests decide
spent_last : (ts : List (Refusal × Bool)) (b : Bool) (e : Event)
    → (first_of (ts ++ (refusal.CallsSpent, b) ∷ []) e ≡ first_of ts e) ⊎ IsGrouped (first_of (ts ++ (refusal.CallsSpent, b) ∷ []) e)
spent_last [] true e = inr (refusal.CallsSpent, refl, λ h. h)
spent_last [] false e = inl refl
spent_last (t ∷ ts) b e = by t.1 (spent_last ts b e)
  where
    by : (a : Bool) → (first_of (ts ++ (refusal.CallsSpent, b) ∷ []) e ≡ first_of ts e)
        ⊎ IsGrouped (first_of (ts ++ (refusal.CallsSpent, b) ∷ []) e)
        → (first_of ((t.0, a) ∷ ts ++ (refusal.CallsSpent, b) ∷ []) e ≡ first_of ((t.0, a) ∷ ts) e)
        ⊎ IsGrouped (first_of ((t.0, a) ∷ ts ++ (refusal.CallsSpent, b) ∷ []) e)
    by true rest = inl refl
    by false rest = rest

-- too many resources are registered, or the other tests decide
many_between : (a b c : Bool) (e : Event)
    → (first_of ((refusal.Exists, a) ∷ (refusal.TooManyResources, b) ∷ (refusal.TooLarge, c) ∷ []) e
    ≡ first_of ((refusal.Exists, a) ∷ (refusal.TooLarge, c) ∷ []) e)
    ⊎ IsGrouped (first_of ((refusal.Exists, a) ∷ (refusal.TooManyResources, b) ∷ (refusal.TooLarge, c) ∷ []) e)
many_between true b c e = inl refl
many_between false true c e = inr (refusal.TooManyResources, refl, λ h. h)
many_between false false c e = inl refl

-- the machine meets the same refusal, or none as well, except for a shortage that resources share
first_alike : (s : State) (c : Command) (size : ℕ) (e : Event)
    → (first_of (tests s c size) e ≡ first_of (isolated_tests (resource_at s (commanded c)) c size) e)
    ⊎ IsGrouped (first_of (tests s c size) e)
first_alike s (command.Register r) size e = many_between _ _ _ e
first_alike s (command.Exec i task timeout) size e = spent_last (isolated_tests (resource_at s i) (command.Exec i task timeout) size) _ e
first_alike s (command.Recur i interval timeout level) size e =
    spent_last (isolated_tests (resource_at s i) (command.Recur i interval timeout level) size) _ e
first_alike s _ size e = inl refl

-- the command's event with its moment as it is handed in
abbrev asked_at : ℕ → ℕ → Command → Event
asked_at at call c = record { at = at; change = change_of call c }

pub isolated_command : (y : Isolated) (s : State) (now : ℕ) (c : Command) (answer : Reply) (events : List Event)
    → y.resource ≡ resource_at s (commanded c) → y.next_call ≤ s.next_call
    → s.clock ≤ cut now → IsPlain answer → Follows (event_of s now c) answer events → IsolatedCommand (cut now) y c answer events
isolated_command y s now c answer events same calls clock plain follows =
    let e = asked_event s now c in
    let one : Follows (isolated_event (resource_at s (commanded c)) e c) answer events = ⊎_elim
    (λ alike. subst (λ (v : Result Event Refusal). Follows v answer events) alike follows)
    (λ shared.
    let refused : Follows (Err shared.0) answer events = subst (λ (v : Result Event Refusal). Follows v answer events) shared.1 follows in
    absurd (shared.2 (subst IsPlain refused.0 plain)))
    (first_alike s c (length (encoded_event e)) e) in
    let cut_off : Follows (isolated_event (resource_at s (commanded c)) (asked_at (cut now) s.next_call c) c) answer events =
    subst (λ (at : ℕ). Follows (isolated_event (resource_at s (commanded c)) (asked_at at s.next_call c) c) answer events)
    (moment_is s now clock) one in record {
      call = s.next_call;
      above = calls;
      follows =
          subst (λ (o : Option Resource). Follows (isolated_event o (asked_at (cut now) s.next_call c) c) answer events) (sym same) cut_off;
    }

-- a plain reply to a question is that of the state
plain_reply : (r given : Reply) → IsReplyOrMemory r given → IsPlain given → given ≡ r
plain_reply (reply.Refused why) given h plain = h
plain_reply _ given h plain = ⊎_elim (λ same. same) (λ memory. absurd (subst IsPlain memory plain)) h

pub isolated_question : (resource : Option Resource) (s : State) (id : List ℕ) (q : Question) (given : Reply) → resource ≡ resource_at s id
    → is_about id (asked.Question q) ≡ true
    → IsReplyOrMemory (reply_to s q) given → IsPlain given → given ≡ isolated_answer resource q
isolated_question resource s id question.List given same about h plain = absurd (cc)
isolated_question resource s id (question.Info other) given same about h plain =
    let is : resource ≡ resource_at s other = same ∙ ap (resource_at s) ((bytes_eq-Decides id other).0 about) in
    rw is (plain_reply (reply_to s (question.Info other)) given h plain)
isolated_question resource s id (question.History other) given same about h plain =
    let is : resource ≡ resource_at s other = same ∙ ap (resource_at s) ((bytes_eq-Decides id other).0 about) in
    rw is (plain_reply (reply_to s (question.History other)) given h plain)
