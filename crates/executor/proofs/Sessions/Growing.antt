-- Sessions grow by one input at their end, and the crash conditions of their calls join.
use Rattle.std.proofs.Common.{◌≡◌, ◌↔◌, ℕ, Bool, true, false, true≢false, Result, Ok, Err, List, [], ◌∷◌, ◌++◌, inl, refl, sym, ◌∙◌, ap, subst, append_assoc}
use Rattle.std.proofs.lemmas.List.{append-nil}
use Rattle.ocf_types.specs.Kinds.{Event, Request}
use Rattle.ocf_model.specs.Answer.{Reply}
use Rattle.ocf_model.specs.StateLemmas.{after_all-append}
use Rattle.ocf_model.specs.State.{State, after_all}
use Rattle.ocf_model.specs.Due.{Due}
use Rattle.ocf_model.specs.declared.refusal.Refusal.TheVariants.{Disk}
use Rattle.ocf_model.specs.declared.reply.ReplyOf.TheVariants.{Refused}
use Rattle.ocf_model.specs.declared.reply.TurnEnd.{TurnEnd}
use Rattle.child_model.specs.declared.answer.Entry.{Entry}
use Rattle.exec_ledger.specs.BatchStarts.{due_after_all}
use Rattle.executor.specs.Sessions.{Input, Session, TakesWhile, request_effects, Leads, TakesInputs, TakesOpen, command_effects}
use Rattle.executor.specs.ExecutorView.{OnlyLedgerChanges, ExecutorView, due_in, ledger_of, ExecutorInvariant, ExecutorKeeps}
use Rattle.ocf_model.specs.Answer.{event_of}
use Rattle.ocf_types.specs.declared.command.RequestOf.TheVariants as asked
use Rattle.ocf_model.specs.declared.refusal.Refusal.{Refusal}
use Rattle.child_model.specs.Children.{ChildrenView}
use Rattle.exec_ledger.specs.Lemmas.{asked_none, due_after_all-append, joined, settled_leaves, settles}
use Rattle.exec_ledger.specs.Pieces.{Effects, CrashCondition, Prefix, followed_by, no_effects}
use Rattle.exec_ledger.specs.Commands.{Obeys}
use Rattle.executor.specs.Commands.{ServesOpen}
use Rattle.exec_ledger.specs.Replies.{pending}
use Rattle.executor.specs.CallLemmas.{followed_by_assoc, followed_by_none, same_view}
use Rattle.exec_turn.specs.Turn.{TurnKind}
use Rattle.executor.specs.TurnCalls.{MakesTurn}
use Rattle.executor.specs.declared.session.InputOf.TheVariants as input
use Rattle.store_model.specs.Lemmas.{started}
use Rattle.store_model.specs.StoreView.{StoreView, Lawful}

-- one more input
pub session_more : {S : Type 0} (view : S → StoreView) (x y z : ExecutorView S) (is : List Input) (rs : List Reply) (i : Input) (r : Reply)
    (a b : Effects)
    → Session view x is rs y a → TakesWhile y.is_open view i y z r b → Session view x (is ++ i ∷ []) (rs ++ r ∷ []) z (followed_by a b)
session_more view x y z [] [] i r a b s t = (
  z,
  b,
  no_effects,
  subst (λ (v : ExecutorView _). TakesWhile v.is_open view i v z r b) s.0 t,
  (refl, refl),
  ap (λ (d : Effects). followed_by d b) s.1
      ∙ sym (followed_by_none b),
)
session_more view x y z [] (q ∷ rs) i r a b s t = absurd s
session_more view x y z (j ∷ is) [] i r a b s t = absurd s
session_more view x y z (j ∷ is) (q ∷ rs) i r a b (m, first, later, takes, rest, does) t = (
  m,
  first,
  followed_by later b,
  takes,
  session_more view m y z is rs i r later b rest t,
  ap (λ (d : Effects). followed_by d b) does
      ∙ sym (followed_by_assoc first later b),
)

-- without effects a crash leaves what it might have left before
pub leads_start : {S : Type 0} (view : S → StoreView) (x : ExecutorView S) → ((view x.store).honest → Lawful (view x.store))
    → ExecutorKeeps view x → Leads view x x no_effects
leads_start view x lawful keeps = record {
  crash = settled_leaves view x.store x.state lawful keeps.settled;
  book = sym (append-nil x.children.book);
  log = sym (append-nil x.children.log);
  site = refl;
  opening_report = refl;
  due = refl;
  whole = λ is_open. refl;
}

-- The effects of calls, even where the children's book was emptied: from one view of an executor to another. An executor that a disk
-- fault closed may have gone on to a state that is not recorded.
pub record Onward {S : Type 0} (view : S → StoreView) (old new : ExecutorView S) (effects : Effects) : Type 0 where
  pub crash : CrashCondition view old.store new.store old.state (after_all old.state effects.events) effects
  pub state : new.is_open ≡ true → new.state ≡ after_all old.state effects.events
  pub whole : new.is_open ≡ true → effects.pending ≡ []

-- where the state is the one that is recorded
pub onward_at : {S : Type 0} (view : S → StoreView) (x y : ExecutorView S) (d : Effects)
    → CrashCondition view x.store y.store x.state y.state d → (y.is_open ≡ true → d.pending ≡ []) → Onward view x y d
onward_at view x y d leaves whole = record {
  crash = subst (λ (t : State). CrashCondition view x.store y.store x.state t d) leaves.state leaves;
  state = λ _. leaves.state;
  whole = whole;
}

pub onward : {S : Type 0} (view : S → StoreView) (x y : ExecutorView S) (d : Effects) → Leads view x y d → Onward view x y d
onward view x y d leads = onward_at view x y d leads.crash leads.whole

-- where calls left it open, its state is the recorded one
pub leads_still : {S : Type 0} (view : S → StoreView) (w x : ExecutorView S) (a : Effects) → x.is_open ≡ true → Onward view w x a
    → Leads view x x no_effects
leads_still view w x a is_open so_far = record {
  crash = record {
    state = refl;
    crash = started (view x.store) (Prefix x.state []) (λ h s left. ([], [], refl, left_so h s left));
    now = λ h s left. inl (left_so h s left);
    starts = λ run clock asked. absurd (asked_none run clock asked);
  };
  book = sym (append-nil x.children.book);
  log = sym (append-nil x.children.log);
  site = refl;
  opening_report = refl;
  due = refl;
  whole = λ is_open. refl;
}
  where
    left_so : (view x.store).honest → (s : State) → (view x.store).leaves (view x.store).clock s → s ≡ x.state
    left_so = settles view w.store x.store w.state x.state a (so_far.whole is_open)
        (subst (λ (s : State). CrashCondition view w.store x.store w.state s a) (sym (so_far.state is_open)) so_far.crash)

no_pending : (e : Event) (reply : Reply) → (reply ≡ Refused Disk → ⊥) → pending e reply ≡ []
no_pending e (Refused Disk) not_disk = absurd (not_disk refl)
no_pending e reply not_disk = refl

leads_command : {S : Type 0} (view : S → StoreView) (x y : ExecutorView S) (r : Result Event Refusal) (reply : Reply) → Leads view x x no_effects
    → Obeys view r (ledger_of x) (ledger_of y) reply → OnlyLedgerChanges x y → ((y.is_open ≡ false) ↔ (reply ≡ Refused Disk)) → Leads view x y (command_effects r reply)
leads_command view x y (Err refusal) reply still obeys beside closes =
    subst (λ (z : ExecutorView _). Leads view x z no_effects) (sym (same_view x y obeys.1 beside)) still
leads_command view x y (Ok e) reply still records beside closes = record {
  crash = records.crash;
  book = ap (λ (c : ChildrenView). c.book) beside.children ∙ sym (append-nil x.children.book);
  log = ap (λ (c : ChildrenView). c.log) beside.children ∙ sym (append-nil x.children.log);
  site = beside.site;
  opening_report = beside.opening_report;
  due = records.due;
  whole = λ is_open. no_pending e reply (λ disk. absurd (true≢false (sym is_open ∙ closes.1 disk)));
}

leads_request : {S : Type 0} (view : S → StoreView) (now : ℕ) (request : Request) (x y : ExecutorView S) (reply : Reply) → Leads view x x no_effects
    → ServesOpen view now request x y reply → ((y.is_open ≡ false) ↔ (reply ≡ Refused Disk))
    → Leads view x y (request_effects x.state now request reply)
leads_request view now (asked.Question question) x y reply still serves closes =
    subst (λ (z : ExecutorView _). Leads view x z no_effects) (sym serves.1) still
leads_request view now (asked.Command command) x y reply still serves closes =
    leads_command view x y (event_of x.state now command) reply still serves.0 serves.1 closes

-- the effects of a turn of any kind
pub leads_turn : {S : Type 0} {kind : TurnKind} {most : ℕ} (view : S → StoreView) (now : ℕ) (x y : ExecutorView S) (end : TurnEnd)
    (takes : MakesTurn kind most view now x y end)
    → Leads view x y takes.turns.effects
leads_turn view now x y end takes = record {
  crash = takes.turns.crash;
  book = takes.turns.book;
  log = takes.turns.log;
  site = takes.site;
  opening_report = takes.opening_report;
  due = takes.turns.due_is;
  whole = λ is_open. takes.turns.whole (λ disk. absurd (true≢false (sym is_open ∙ takes.closes.1 disk)));
}

-- the effects of one input
pub leads_open : {S : Type 0} (view : S → StoreView) (i : Input) (x y : ExecutorView S) (reply : Reply) (d : Effects) → Leads view x x no_effects
    → TakesOpen view i x y reply d → Leads view x y d
leads_open view (input.Request now request) x y reply d still takes =
    subst (λ (e : Effects). Leads view x y e) (sym takes.does)
    (leads_request view now request x y reply still takes.serves takes.closes)
leads_open view (input.Turn now) x y reply d still takes =
    subst (λ (e : Effects). Leads view x y e) (sym takes.does) (leads_turn view now x y takes.end takes.takes)

-- calls after others
pub onward_joined : {S : Type 0} (view : S → StoreView) (x y z : ExecutorView S) (a b : Effects) → y.is_open ≡ true → Onward view x y a
    → Onward view y z b → Onward view x z (followed_by a b)
onward_joined view x y z a b is_open one two =
    let nothing : a.pending ≡ [] = one.whole is_open in
    let t : State = after_all x.state a.events in
    let all : after_all x.state (a.events ++ b.events) ≡ after_all t b.events = after_all-append x.state a.events b.events in
    let later : CrashCondition view y.store z.store t (after_all t b.events) b =
    subst (λ (s : State). CrashCondition view y.store z.store s (after_all s b.events) b) (one.state is_open) two.crash in
    record {
      crash =
          subst (λ (s : State). CrashCondition view x.store z.store x.state s (followed_by a b)) (sym all)
          (joined view x.store y.store z.store x.state t (after_all t b.events) a b nothing one.crash later);
      state = λ still. two.state still ∙ ap (λ (s : State). after_all s b.events) (one.state is_open) ∙ sym all;
      whole = λ still. ap (λ (p : List Event). p ++ b.pending) nothing ∙ two.whole still;
    }

leads_joined : {S : Type 0} (view : S → StoreView) (x y z : ExecutorView S) (a b : Effects) → y.is_open ≡ true → Leads view x y a → Leads view y z b
    → Leads view x z (followed_by a b)
leads_joined view x y z a b is_open one two =
    let on = onward_joined view x y z a b is_open (onward view x y a one) (onward view y z b two) in
    let reached : z.state ≡ after_all x.state (a.events ++ b.events) = two.crash.state
    ∙ ap (λ (s : State). after_all s b.events) one.crash.state ∙ sym (after_all-append x.state a.events b.events) in record {
      crash =
          subst (λ (s : State). CrashCondition view x.store z.store x.state s (followed_by a b)) (sym reached) on.crash;
      book = two.book ∙ ap (λ (es : List Entry). es ++ b.entries) one.book ∙ append_assoc x.children.book a.entries b.entries;
      log = two.log ∙ ap (λ (es : List Entry). es ++ b.entries) one.log ∙ append_assoc x.children.log a.entries b.entries;
      site = two.site ∙ one.site;
      opening_report = two.opening_report ∙ one.opening_report;
      due =
          two.due ∙ ap (λ (s : State). due_after_all s (due_in y) b.events) one.crash.state
          ∙ ap (λ (d : Due). due_after_all (after_all x.state a.events) d b.events) one.due
          ∙ sym (due_after_all-append x.state (due_in x) a.events b.events);
      whole = on.whole;
    }

-- one more input, taken while the executor is open or closed
leads_more : {S : Type 0} (o : Bool) (view : S → StoreView) (i : Input) (x y z : ExecutorView S) (reply : Reply) (a b : Effects) → y.is_open ≡ o
    → TakesWhile o view i y z reply b → Leads view x y a
    → Leads view x z (followed_by a b)
leads_more true view i x y z reply a b is_open takes leads =
    leads_joined view x y z a b is_open leads
    (leads_open view i y z reply b (leads_still view x y a is_open (onward view x y a leads)) takes)
leads_more false view i x y z reply a b closed takes leads =
    subst (λ (w : ExecutorView _). Leads view x w (followed_by a b)) (sym takes.1)
    (subst (λ (d : Effects). Leads view x y (followed_by a d)) (sym takes.2) (subst (λ (d : Effects). Leads view x y d) (sym (followed_by_none a)) leads))

-- one more input, in a session
pub inputs_more : {S : Type 0} (view : S → StoreView) (x y z : ExecutorView S) (is : List Input) (rs : List Reply) (i : Input) (r : Reply) (b : Effects)
    → TakesInputs view is x y rs → TakesWhile y.is_open view i y z r b
    → TakesInputs view (is ++ i ∷ []) x z (rs ++ r ∷ [])
inputs_more view x y z is rs i r b takes_inputs takes = record {
  effects = followed_by takes_inputs.effects b;
  each = session_more view x y z is rs i r takes_inputs.effects b takes_inputs.each takes;
  leads = λ was_open. leads_more y.is_open view i x y z r takes_inputs.effects b refl takes (takes_inputs.leads was_open);
}

pub inputs_start : {S : Type 0} (view : S → StoreView) (x : ExecutorView S) → ((view x.store).honest → Lawful (view x.store))
    → ExecutorInvariant view x → TakesInputs view [] x x []
inputs_start view x lawful sound =
    record { effects = no_effects; each = (refl, refl); leads = λ is_open. leads_start view x lawful (sound is_open) }
