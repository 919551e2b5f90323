-- Of the history of the example no other events remain.
use Rattle.std.proofs.Common.{◌≡◌, inl, inr, ℕ, true, false, List, [], ◌∷◌, ◌++◌, map, None, Result, Ok, refl, sym, ap, ap₂, subst, ◌∙◌, arith}
use Rattle.std.specs.Prelude.{codes}
use Rattle.ocf_types.specs.Actions.{plain, task}
use Rattle.ocf_model.specs.Answer.{event_of}
use Rattle.ocf_types.specs.Encoding.{eight_bytes, encoded_event_in}
use Rattle.ocf_types.specs.Kinds.{Command, Event}
use Rattle.ocf_model.specs.Answer.{Reply}
use Rattle.ocf_model.specs.Resource.{Resource}
use Rattle.ocf_model.specs.State.{State, after_all, empty}
use Rattle.ocf_types.specs.declared.action.Action.TheVariants.{Start}
use Rattle.ocf_types.specs.declared.command.CommandOf.TheVariants as command
use Rattle.ocf_types.specs.declared.outcome.StartFault.{StartFault}
use Rattle.ocf_model.specs.declared.refusal.Refusal.{Refusal}
use Rattle.ocf_types.specs.declared.notice.Notice.{Notice}
use Rattle.ocf_model.specs.declared.reply.ReplyOf.TheVariants as reply
use Rattle.ocf_model.specs.declared.reply.TurnEnd.{TurnEnd}
use Rattle.ocf_model.specs.declared.reply.TurnEnd.TheVariants as turn_end
use Rattle.child_model.specs.Children.{start_answer}
use Rattle.child_model.specs.declared.answer.Answer.TheVariants as asked
use Rattle.child_model.specs.declared.answer.Entry.{Entry}
use Rattle.exec_ledger.specs.Actives.{Active}
use Rattle.exec_ledger.specs.BatchStarts.{BatchStart, batch_start, following}
use Rattle.exec_ledger.specs.Pieces.{Effects, batch_effects, followed_by, no_effects}
use Rattle.exec_ledger.specs.Together.{Adds, Answered, is_no_refusal}
use Rattle.exec_turn.specs.Actives.{result_of}
use Rattle.exec_turn.specs.Picks.{ArePicks, begins as begins_at, begun_in}
use Rattle.exec_turn.specs.Polls.{Polled, polls, results}
use Rattle.exec_turn.specs.Starts.{Started, refusals, refused_end, starts}
use Rattle.exec_turn.specs.Turn.{IsTurn, Whole}
use Rattle.executor_laws.specs.Behaves.{Behaves, HasBegins, Remains}
use Rattle.executor.specs.Exchanges.{Exchange}
use Rattle.executor_laws.specs.Incarnations.{boots as boots_at}
use Rattle.executor_laws.specs.Machine.{HasFailed, Label, Machine, MovesAll, MovesWhile, TakesOne, after_events}
use Rattle.test_incarnations.specs.OneHistory.{begins, exec, first, label, one_history, queues, register, registers, registration, remaining}
use Rattle.test_incarnations.specs.OneHistory.{second, started, third, uncalled, web}
use Rattle.test_incarnations.proofs.OneHistory.{at_first, before_boot, begun, with_action, with_resource}

-- lists without an entry
module _ {A : Type 0} where
  none_before : (xs ys : List A) → xs ++ ys ≡ [] → xs ≡ []
  none_before [] ys is = refl
  none_before (x ∷ xs) ys is = absurd (let bad : x ∷ (xs ++ ys) ≡ [] = is in cc)

module _ {A B : Type 0} where
  none_mapped : (f : A → B) (xs : List A) → map f xs ≡ [] → xs ≡ []
  none_mapped f [] is = refl
  none_mapped f (x ∷ xs) is = absurd (let bad : f x ∷ map f xs ≡ [] = is in cc)

-- a command that was not refused, without a fault of the disk, has recorded its event
adds_one : (e : Event) (r : Reply) (es : List Event) → is_no_refusal r ≡ true → Adds (Ok e) r es → es ≡ e ∷ []
adds_one e r es acknowledged (inl (is, added)) = added
adds_one e r es acknowledged (inr (refused, registers, none)) =
    absurd (let bad : is_no_refusal r ≡ false = ap is_no_refusal refused in cc)

only_event : (now : ℕ) (s : State) (c : Command) (r : Reply) (e : Event) (meant : List Reply) (es : List Event) → event_of s now c ≡ Ok e
    → is_no_refusal r ≡ true → r ∷ [] ≡ meant → Answered now s (c ∷ []) meant es → es ≡ e ∷ []
only_event now s c r e [] es event acknowledged is answered = absurd (cc)
only_event now s c r e (x ∷ y ∷ more) es event acknowledged is answered = absurd (cc)
only_event now s c r e (x ∷ []) es event acknowledged is (one, later, adds, rest, split) =
    let same : r ≡ x = cc in
    let one_is = adds_one e x one (sym (ap is_no_refusal same) ∙ acknowledged) (subst (λ (a : Result Event Refusal). Adds a x one) event adds) in
    split ∙ ap₂ (λ (a b : List Event). a ++ b) one_is rest

one_event : (l : Label) (now : ℕ) (c : Command) (r : Reply) (e : Event) (m n : Machine) (d : Effects) → (HasFailed l → ⊥)
    → event_of m.state now c ≡ Ok e → is_no_refusal r ≡ true → TakesOne l now c r m n d
    → (n ≡ after_events m (e ∷ [])) × (d ≡ batch_effects true (e ∷ []))
one_event l now c r e m n d sound event acknowledged (inr (f, f_is, refused, full, goes_on)) =
    absurd (let bad : is_no_refusal r ≡ false = ap is_no_refusal refused in cc)
one_event l now c r e m n d sound event acknowledged (inl (meant, es, answered, inr (some, failed, (has_failed, closes)))) = absurd (sound has_failed)
one_event l now c r e m n d sound event acknowledged (inl (meant, es, answered, inl (is, (n_is, d_is)))) =
    let es_is = only_event now m.state c r e meant es event acknowledged is answered in
    (n_is ∙ ap (λ (x : List Event). after_events m x) es_is, d_is ∙ ap (λ (x : List Event). batch_effects true x) es_is)

sound : (call : Exchange) (answers : List Entry) (tail : ℕ) → HasFailed (label call answers tail) → ⊥
sound call answers tail failed = omega (arith, failed)

-- the two commands
abbrev two : Effects
two = record { entries = []; events = registers ∷ queues ∷ []; pending = [] }

registered_at : event_of at_first.state 1010 (command.Register registration) ≡ Ok registers
unfolding encoded_event_in eight_bytes
registered_at = refl

queued_at : event_of with_resource.state 1020 (command.Exec web (task Start plain) 20000) ≡ Ok queues
unfolding encoded_event_in eight_bytes
queued_at = refl

returned_by : (m : Machine) (d : Effects) → MovesAll first.calls at_first m d → (m ≡ with_action) × (d ≡ two)
returned_by m d (mid, d1, rest1, moves1, (mid2, d2, rest2, moves2, (m_is, rest2_is), rest1_is), d_is) =
    let one = one_event (label register [] 44) 1010 (command.Register registration) reply.Done registers at_first mid d1
    (sound register [] 44) registered_at refl moves1.0.1 in
    let next : MovesWhile true (label exec [] 79) with_resource mid2 d2 =
    subst (λ (x : Machine). MovesWhile x.is_open (label exec [] 79) x mid2 d2) one.0 moves2 in
    let other = one_event (label exec [] 79) 1020 (command.Exec web (task Start plain) 20000) (reply.Accepted 1 (codes "web_start_0")) queues
    with_resource mid2 d2 (sound exec [] 79) queued_at refl next.0.1 in
    let all : d ≡ followed_by d1 (followed_by d2 no_effects) =
    d_is ∙ ap (λ (x : Effects). followed_by d1 x) (rest1_is ∙ ap (λ (x : Effects). followed_by d2 x) rest2_is) in
    (m_is ∙ other.0, all ∙ ap₂ (λ (a b : Effects). followed_by a (followed_by b no_effects)) one.1 other.1)

-- the turn
abbrev x : BatchStart
x = batch_start with_action.state with_action.due 112 1030 false

abbrev idle : List ℕ × Resource
idle = (
  web,
  record {
    provider = registration.provider;
    agent = registration.agent;
    params = [];
    history = record { queue = record { call = 1; task = task Start plain; timeout = 20000 } ∷ []; running = None; ended = []; failed = None };
    recurring = [];
  },
)

picked_one : (bs : List Active) → ArePicks [] with_action.due 1030 1 with_action.state.resources bs → bs ≡ begun ∷ []
picked_one bs (call, rest, next, later, is) = is ∙ (λ i. begun_in 1030 1 idle (next i) ++ later i)

no_refusals : (xs : List Started) (clock : ℕ) → started ∷ [] ≡ starts clock xs → refusals 1030 xs ≡ []
no_refusals [] clock is = refl
no_refusals (a ∷ []) clock is =
    let one : started ≡ record { run = a.what.running.run; at = clock; answer = start_answer a.answer } = cc in
    let answers : asked.Start (Ok tt) ≡ asked.Start a.answer = ap (λ (e : Entry). e.answer) one in
    let same : Ok tt ≡ a.answer = cc in
    ap (λ (r : Result Unit StartFault). map (result_of 1030 a.what) (refused_end r) ++ []) (sym same)
no_refusals (a ∷ b ∷ xs) clock is = absurd (cc)

turn_only : (d : Effects) → started ∷ [] ≡ d.entries → Whole [] turn_end.Done x d [] → (d.events ≡ begins ∷ []) × (d.pending ≡ [])
turn_only d answered (t, d_is, reported) =
    let no_ps = none_mapped (λ (p : Polled). p.who) t.polled t.each_polled.each in
    let picks : ArePicks [] with_action.due 1030 1 with_action.state.resources t.begun =
    subst (λ (ps : List Polled). ArePicks [] (following x (results 1030 ps)).due 1030 (following x (results 1030 ps)).state.next_run
    (following x (results 1030 ps)).state.resources t.begun) no_ps t.picked.0.0 in
    let begun_is = picked_one t.begun picks in
    let entries : started ∷ [] ≡ polls 1030 t.polled ++ starts t.clock t.started = answered ∙ ap (λ (e : Effects). e.entries) d_is in
    let none = no_refusals t.started t.clock (entries ∙ ap (λ (ps : List Polled). polls 1030 ps ++ starts t.clock t.started) no_ps) in (
      ap (λ (e : Effects). e.events) d_is ∙ (λ i. results 1030 (no_ps i) ++ begins_at 1030 (begun_is i) ++ none i),
      ap (λ (e : Effects). e.pending) d_is,
    )

turned_by : (m : Machine) (d : Effects) → MovesAll first.begun with_action m d → (d.events ≡ begins ∷ []) × (d.pending ≡ [])
turned_by m d (mid, d1, rest, ((end, is, t), memory), (m_is, rest_is), d_is) =
    let same : end ≡ turn_end.Done = (let reported : reply.Turn turn_end.Done ≡ reply.Turn end = is in cc) in
    let one = turn_only d1 t.answers (subst (λ (k : TurnEnd). IsTurn [] k x d1 []) same t.turns) in
    let all = d_is ∙ ap (λ (e : Effects). followed_by d1 e) rest_is in (
      ap (λ (e : Effects). e.events) all ∙ ap (λ (es : List Event). es ++ []) one.0,
      ap (λ (e : Effects). e.pending) all ∙ ap (λ (es : List Event). es ++ []) one.1,
    )

-- of the first incarnation the begin remains, too
with_begin : (later others : List Event) → registers ∷ queues ∷ (later ++ others) ≡ before_boot → HasBegins first (registers ∷ queues ∷ later)
    → later ≡ begins ∷ []
with_begin [] others split has =
    absurd (let bad : false ≡ true = has 1 25 (start_answer (Ok tt), tt, (0, omega arith, refl)) (omega arith) in cc)
with_begin (y ∷ []) others split has = let same : y ≡ begins = cc in ap (λ (e : Event). e ∷ []) same
with_begin (y ∷ z ∷ more) others split has =
    absurd (let all : registers ∷ queues ∷ y ∷ z ∷ (more ++ others) ≡ before_boot = split in cc)

first_only : (p : List Event) → Remains first empty p → p ≡ before_boot
first_only p r =
    let back = returned_by r.returned r.done r.moves in
    let turned = turned_by r.last r.under_way (subst (λ (m : Machine). MovesAll first.begun m r.last r.under_way) back.0 r.goes_on) in
    let (later, others, p_is, all) = r.holds in
    let here : p ≡ registers ∷ queues ∷ later = p_is ∙ ap (λ (d : Effects). d.events ++ later) back.1 in
    let whole : p ++ others ≡ before_boot = all ∙ (λ i. ((back.1 i).events ++ turned.0 i) ++ ((back.1 i).pending ++ turned.1 i)) in
    let later_is = with_begin later others (ap (λ (es : List Event). es ++ others) (sym here) ∙ whole)
    (subst (λ (es : List Event). HasBegins first es) here r.begins) in
    here ∙ ap (λ (es : List Event). registers ∷ queues ∷ es) later_is

-- and nothing of one without a call
nothing : (now : ℕ) (ran : List Notice) (s : State) (p : List Event) → Remains (uncalled now ran) s p → p ≡ []
nothing now ran s p r =
    let (later, others, p_is, all) = r.holds in
    none_before p others (all
    ∙ ap₂ (λ (a b : Effects). (a.events ++ b.events) ++ (a.pending ++ b.pending)) r.moves.1 r.goes_on.1)

pub only : (zs : List Event) → Behaves empty one_history zs → zs ≡ remaining
only zs (ys, more, (ys2, more2, (ys1, more1, none, (p, r, more1_is), ys2_is), (p2, r2, more2_is), ys_is), (p3, r3, more3_is), zs_is) =
    let p_is = first_only p (subst (λ (es : List Event). Remains first (after_all empty es) p) none r) in
    let one : ys2 ≡ before_boot = ys2_is ∙ (λ i. none i ++ (more1_is ∙ (λ j. boots_at (after_all empty (none j)) 1000 ++ p_is j)) i) in
    let p2_is = nothing 5000 second.ran (after_all empty ys2) p2 r2 in
    let both : ys ≡ remaining = ys_is ∙ (λ i. one i ++ (more2_is ∙ (λ j. boots_at (after_all empty (one j)) 5000 ++ p2_is j)) i) in
    let p3_is = nothing 6000 third.ran (after_all empty ys) p3 r3 in
    zs_is ∙ (λ i. both i ++ (more3_is ∙ (λ j. boots_at (after_all empty (both j)) 6000 ++ p3_is j)) i)
