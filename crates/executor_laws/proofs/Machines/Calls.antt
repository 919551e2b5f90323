-- Each call of an executor is a step of the machine.
use Rattle.std.proofs.Common.{◌≡◌, ◌⊎◌, inl, inr, ℕ, Bool, true, false, List, [], ◌∷◌, ◌++◌, length, flat_map, Result, Ok, Err, refl, sym, ap, subst, ◌∙◌}
use Rattle.std.proofs.lemmas.Bool.{false≢true}
use Rattle.std.proofs.lemmas.List.{append-nil, length-append}
use Rattle.ocf_model.specs.Answer.{event_of, moment}
use Rattle.ocf_types.specs.Kinds.{Change, Command, Event}
use Rattle.ocf_model.specs.Answer.{Reply}
use Rattle.ocf_model.specs.State.{State, after_all}
use Rattle.ocf_types.specs.declared.command.RequestOf.TheVariants as asked
use Rattle.ocf_types.specs.declared.event.Change.TheVariants as change
use Rattle.ocf_types.specs.declared.event.Step.TheVariants as step
use Rattle.ocf_model.specs.declared.refusal.Refusal.{Refusal}
use Rattle.ocf_model.specs.declared.refusal.Refusal.TheVariants.{Disk, JournalFull, Memory}
use Rattle.ocf_model.specs.declared.reply.ReplyOf.TheVariants.{Refused}
use Rattle.ocf_model.specs.declared.reply.TidyEnd.{TidyEnd}
use Rattle.ocf_model.specs.declared.reply.TurnEnd.{TurnEnd}
use Rattle.ocf_model.specs.declared.reply.TidyEnd.TheVariants as tidy
use Rattle.child_model.specs.Children.{ChildrenView}
use Rattle.child_model.specs.declared.answer.Entry.{Entry}
use Rattle.exec_turn.specs.Turn.{IsFinish, IsTurn, TurnKind}
use Rattle.exec_ledger.specs.Commands.{Obeys, Records}
use Rattle.executor.specs.Exchanges.{Abandoned, Calls, Cleared, Does, Exchange, Finished, Batch, Tidied, Took}
use Rattle.executor_laws.specs.Machine.{GoesOn, Label, Machine, MovesAll, MovesOpen, MovesTurn, MovesWhile, TakesAll, TakesOne, TidyEnds}
use Rattle.exec_ledger.specs.Replies.{acknowledged, pending, recorded}
use Rattle.exec_ledger.specs.Together.{Adds, Answered, failed, batch_replies}
use Rattle.executor.specs.FinishCalls.{FinishedWhile}
use Rattle.executor.specs.BatchCalls.{TakesBatch}
use Rattle.exec_ledger.specs.Lemmas.{of_open, same_entries}
use Rattle.exec_ledger.specs.Pieces.{Effects, no_effects, batch_effects}
use Rattle.exec_ledger.specs.BatchStarts.{due_after_all}
use Rattle.executor_laws.specs.SeenIncarnations.{label_in, labels}
use Rattle.executor.specs.Sessions.{TakesATurn, TakesRequest, command_effects}
use Rattle.exec_ledger.specs.LedgerView.{LedgerView, due_in as held_due}
use Rattle.executor.specs.CallLemmas.{same_view}
use Rattle.executor.specs.ExecutorView.{OnlyLedgerChanges, ExecutorView, due_in, ledger_of}
use Rattle.exec_ledger.specs.Tidying.{Tidies}
use Rattle.executor.specs.TurnCalls.{MakesTurn}
use Rattle.executor.specs.declared.session.InputOf.TheVariants as input
use Rattle.executor_laws.proofs.Incarnations.Calls.{does_nothing}
use Rattle.executor_laws.proofs.Memory.{memory_reported}
use Rattle.store_model.specs.StoreView.{StoreView}

-- an executor as the machine
abbrev pub machine_of : {S : Type 0} → ExecutorView S → Machine
machine_of x = record {
  is_open = x.is_open;
  state = x.state;
  due = due_in x;
  refuses = x.refuses;
  room = x.children.room;
  booked = length x.children.book;
}

pub same_machine : (m n : Machine) → m.is_open ≡ n.is_open → m.state ≡ n.state → m.due ≡ n.due → m.refuses ≡ n.refuses → m.room ≡ n.room
    → m.booked ≡ n.booked → m ≡ n
same_machine m n o s d a r b = λ k. record { is_open = o k; state = s k; due = d k; refuses = a k; room = r k; booked = b k }

-- where the children stay, so does the book
book_room : (old new : ChildrenView) → new ≡ old → new.room ≡ old.room
book_room old new same = ap (λ (c : ChildrenView). c.room) same

book_length : (old new : ChildrenView) → new ≡ old → length new.book ≡ length old.book
book_length old new same = ap (λ (c : ChildrenView). length c.book) same

same_effects : (e : Event) (reply : Reply) (es ps : List Event) → recorded e reply ≡ es → pending e reply ≡ ps
    → command_effects (Ok e) reply ≡ record { entries = []; events = es; pending = ps }
same_effects e reply es ps r p = λ k. record { entries = []; events = r k; pending = p k }

is_true : (o : Bool) → (o ≡ false → ⊥) → o ≡ true
is_true true h = refl
is_true false h = absurd (h refl)

-- an acknowledgement is not a refusal, and its event is recorded
not_refused : (c : Change) (refusal : Refusal) → acknowledged c ≡ Refused refusal → ⊥
not_refused (change.Step id (step.Exec o)) refusal is = cc
not_refused (change.Step id (step.Recur m)) refusal is = cc
not_refused _ refusal is = cc

-- the recorded and the pending event, and the reply, where the disk fails
abbrev Acknowledged : Event → Change → Type 0
Acknowledged e c = (recorded e (acknowledged c) ≡ e ∷ []) × (pending e (acknowledged c) ≡ [])
    × (failed (acknowledged c ∷ []) ≡ Refused Disk ∷ [])

is_acknowledged : (e : Event) (c : Change) → Acknowledged e c
is_acknowledged e (change.Step id (step.Exec o)) = (refl, refl, refl)
is_acknowledged e (change.Step id (step.Recur m)) = (refl, refl, refl)
is_acknowledged e _ = (refl, refl, refl)

-- one reply, and the events of one command
answers : (s : State) (now : ℕ) (c : Command) (r : Reply) (es : List Event) (v : Result Event Refusal) → event_of s now c ≡ v → Adds v r es
    → Answered now s (c ∷ []) (r ∷ []) es
answers s now c r es v is adds = (es, [], subst (λ (w : Result Event Refusal). Adds w r es) (sym is) adds, refl, sym (append-nil es))

-- a command asks no agent process
quiet_command : (v : Result Event Refusal) (reply : Reply) → (command_effects v reply).entries ≡ []
quiet_command (Err refusal) reply = refl
quiet_command (Ok e) reply = refl

module _ {S : Type 0} (view : S → StoreView) where
  still : (x y : ExecutorView S) (d : Effects) → y ≡ x → d ≡ no_effects → GoesOn [] (machine_of x) (machine_of y) d
  still x y d same none = (ap machine_of same, none)

  -- a label with the device's failures, and the position of the journal's next record
  abbrev step_of : ExecutorView S → ExecutorView S → Label
  step_of x y = label_in view true Cleared x y no_effects

  -- a command
  records : (now : ℕ) (c : Command) (x y : ExecutorView S) (reply : Reply) (e : Event) → event_of x.state now c ≡ Ok e
      → Records view e (ledger_of x) (ledger_of y) reply → OnlyLedgerChanges x y → x.is_open ≡ true → (y.is_open ≡ false → reply ≡ Refused Disk) → (reply ≡ Refused Disk → y.is_open ≡ false)
      → TakesOne (step_of x y) now c reply (machine_of x) (machine_of y) (command_effects (Ok e) reply)
  records now c x y reply e is r beside was closes closed = by r.reported
    where
      so : Acknowledged e e.change
      so = is_acknowledged e e.change

      by : (reply ≡ acknowledged e.change) ⊎ ((reply ≡ Refused JournalFull) ⊎ ((reply ≡ Refused Memory) ⊎ (reply ≡ Refused Disk)))
          → TakesOne (step_of x y) now c reply (machine_of x) (machine_of y) (command_effects (Ok e) reply)
      by (inl reported) =
          let batch : recorded e reply ≡ e ∷ [] = ap (recorded e) reported ∙ so.0 in
          let open_still : y.is_open ≡ true = is_true y.is_open (λ bad. not_refused e.change Disk (sym reported ∙ closes bad)) in
          inl (
            reply ∷ [],
            e ∷ [],
            answers x.state now c reply (e ∷ []) (Ok e) is (inl (reported, refl)),
            inl (
              refl,
              (
                same_machine (machine_of y) _ (open_still ∙ sym was) (r.crash.state ∙ ap (after_all x.state) batch)
                    (r.due ∙ ap (due_after_all x.state (due_in x)) batch) r.allocator (book_room x.children y.children beside.children)
                    (book_length x.children y.children beside.children),
                same_effects e reply (e ∷ []) [] batch (ap (pending e) reported ∙ so.1),
              ),
            ),
          )
      by (inr (inl full)) =
          inr (e, is, full, r.full full, (ap machine_of (same_view x y (r.unchanged (inl full)) beside), same_effects e reply [] [] (ap (recorded e) full) (ap (pending e) full)))
      by (inr (inr (inl memory))) =
          inl (
            reply ∷ [],
            [],
            answers x.state now c reply [] (Ok e) is (inr (memory, (r.memory memory).0, refl)),
            inl (
              refl,
              (ap machine_of (same_view x y (r.unchanged (inr memory)) beside), same_effects e reply [] [] (ap (recorded e) memory) (ap (pending e) memory)),
            ),
          )
      by (inr (inr (inr disk))) =
          inl (
            acknowledged e.change ∷ [],
            e ∷ [],
            answers x.state now c (acknowledged e.change) (e ∷ []) (Ok e) is (inl (refl, refl)),
            inr (
              (λ none. let bad : e ∷ [] ≡ [] = none in cc),
              ap (λ (a : Reply). a ∷ []) disk ∙ sym so.2,
              (r.cause disk, (closed disk, same_effects e reply [] (e ∷ []) (ap (recorded e) disk) (ap (pending e) disk))),
            ),
          )

  one_command : (now : ℕ) (c : Command) (x y : ExecutorView S) (reply : Reply) (d : Effects) → TakesRequest view now (asked.Command c) x y reply d
      → x.is_open ≡ true → TakesOne (step_of x y) now c reply (machine_of x) (machine_of y) d
  one_command now c x y reply d takes was =
      subst (λ (k : Effects). TakesOne (step_of x y) now c reply (machine_of x) (machine_of y) k) (sym takes.does)
      (by (event_of x.state now c) refl takes.serves.0)
    where
      by : (v : Result Event Refusal) → event_of x.state now c ≡ v → Obeys view v (ledger_of x) (ledger_of y) reply
          → TakesOne (step_of x y) now c reply (machine_of x) (machine_of y) (command_effects v reply)
      by (Err refusal) is serves =
          inl (reply ∷ [], [], answers x.state now c reply [] (Err refusal) is (serves.0, refl), inl (refl, still x y no_effects (same_view x y serves.1 takes.serves.1) refl))
      by (Ok e) is serves = records now c x y reply e is serves takes.serves.1 was takes.closes.0 takes.closes.1

  -- a batch of commands
  batch_so : (o : Bool) (now : ℕ) (cs : List Command) (rs : List Reply) (x y : ExecutorView S) (d : Effects) (t : TakesBatch view now cs x y rs d)
      → y.is_open ≡ o → TakesAll (step_of x y) now cs (batch_replies o t.takes.meant) (machine_of x) (machine_of y) (batch_effects o t.takes.events)
  batch_so true now cs rs x y d t is = (
    t.takes.meant,
    t.takes.events,
    t.takes.answered,
    inl (
      refl,
      (
        same_machine (machine_of y) _ (is ∙ sym t.takes.was_open) (ap (λ (h : LedgerView S). h.state) t.takes.records.went.same)
            t.takes.records.went.due (ap (λ (h : LedgerView S). h.refuses) t.takes.records.went.same)
            (book_room x.children y.children t.beside.children) (book_length x.children y.children t.beside.children),
        refl,
      ),
    ),
  )
  batch_so false now cs rs x y d t is = (
    t.takes.meant,
    t.takes.events,
    t.takes.answered,
    inr (
      (λ none. false≢true (sym is ∙ ap (λ (h : LedgerView S). h.is_open) (t.takes.records.unchanged none) ∙ t.takes.was_open)),
      refl,
      (t.takes.records.cause is, (is, refl)),
    ),
  )

  one_batch : (now : ℕ) (cs : List Command) (rs : List Reply) (x y : ExecutorView S) (d : Effects) → TakesBatch view now cs x y rs d
      → TakesAll (step_of x y) now cs rs (machine_of x) (machine_of y) d
  one_batch now cs rs x y d t =
      subst (λ (l : List Reply). TakesAll (step_of x y) now cs l (machine_of x) (machine_of y) d) (sym t.takes.reported)
      (subst (λ (k : Effects). TakesAll (step_of x y) now cs (batch_replies y.is_open t.takes.meant) (machine_of x) (machine_of y) k) (sym t.does)
      (batch_so y.is_open now cs rs x y d t refl))

  -- a turn of a kind, by its label
  turn_so : (kind : TurnKind) (each now : ℕ) (x y : ExecutorView S) (end : TurnEnd) (e : Exchange) (t : MakesTurn kind each view now x y end)
      → MovesTurn kind each end (moment x.state now)
      (record { exchange = e; answers = t.turns.effects.entries; notices = y.reported; held = y.children.held; tail = (view x.store).tail; epoch = (view x.store).epoch; faults = ((view x.store).failures, (view y.store).failures) })
      (machine_of x) (machine_of y) t.turns.effects
  turn_so kind each now x y end e t = record {
    turns = t.turns.does;
    answers = refl;
    goes_on = same_machine (machine_of y) _ refl t.turns.crash.state t.turns.due_is t.allocator t.turns.room
        (ap (λ (b : List Entry). length b) t.turns.book ∙ length-append x.children.book t.turns.effects.entries);
    full = t.full;
    closes = t.closes;
    cause = t.turns.cause;
  }

  one_finish : (now : ℕ) (x y : ExecutorView S) (end : TurnEnd) (d : Effects) → FinishedWhile true view now x y end d
      → MovesOpen (Finished now end) (label_in view true (Finished now end) x y d) (machine_of x) (machine_of y) d
  one_finish now x y end d (takes, does) =
      subst (λ (k : Effects). MovesTurn IsFinish 2 end (moment x.state now) (label_in view true (Finished now end) x y k) (machine_of x) (machine_of y) k)
      (sym does) (turn_so IsFinish 2 now x y end (Finished now end) takes)

  one_turn : (now : ℕ) (x y : ExecutorView S) (reply : Reply) (d : Effects) → TakesATurn view now x y reply d
      → MovesOpen (Took (input.Turn now) reply) (label_in view true (Took (input.Turn now) reply) x y d) (machine_of x) (machine_of y) d
  one_turn now x y reply d takes = (
    takes.end,
    takes.replies,
    subst (λ (k : Effects). MovesTurn IsTurn 3 takes.end (moment x.state now) (label_in view true (Took (input.Turn now) reply) x y k)
        (machine_of x) (machine_of y) k)
        (sym takes.does) (turn_so IsTurn 3 now x y takes.end (Took (input.Turn now) reply) takes.takes),
  )

  -- a tidy
  tidied_open : (x y : ExecutorView S) (d : Effects) (end : TidyEnd) → (end ≡ tidy.Disk → ⊥) → Tidies view (ledger_of x) (ledger_of y) end
      → OnlyLedgerChanges x y → d ≡ no_effects → x.is_open ≡ true → GoesOn [] (machine_of x) (machine_of y) d
  tidied_open x y d end other t beside none was = (
    same_machine (machine_of y) _ (is_true y.is_open (λ shut. other (t.closes.0 shut)) ∙ sym was) (ap (λ (h : LedgerView S). h.state) t.same)
        (ap held_due t.same) (ap (λ (h : LedgerView S). h.refuses) t.same) (book_room x.children y.children beside.children)
        (book_length x.children y.children beside.children),
    none,
  )

  one_tidy : (end : TidyEnd) (x y : ExecutorView S) (d : Effects) → Tidies view (ledger_of x) (ledger_of y) end → OnlyLedgerChanges x y
      → d ≡ no_effects → x.is_open ≡ true
      → TidyEnds end (label_in view true (Tidied end) x y d) (machine_of x) (machine_of y) d
  one_tidy tidy.Done x y d t beside none was = tidied_open x y d tidy.Done (λ is. cc) t beside none was
  one_tidy tidy.EpochSpent x y d t beside none was = (t.spent.0 refl, tidied_open x y d tidy.EpochSpent (λ is. cc) t beside none was)
  one_tidy tidy.Disk x y d t beside none was = (t.cause refl, (t.closes.1 refl, none))
  one_tidy tidy.Closed x y d t beside none was = t.not_closed refl

  -- an open executor
  moves_open : (e : Exchange) (x y : ExecutorView S) (d : Effects) → x.is_open ≡ true → Does view e x y d
      → MovesOpen e (label_in view true e x y d) (machine_of x) (machine_of y) d
  moves_open (Took (input.Request now (asked.Question q)) reply) x y d was does =
      let t : TakesRequest view now (asked.Question q) x y reply d =
      of_open _ _ was does in
      ((same_entries t.does, refl), t.serves.0, still x y d t.serves.1 t.does)
  moves_open (Took (input.Request now (asked.Command c)) reply) x y d was does =
      let t : TakesRequest view now (asked.Command c) x y reply d =
      of_open _ _ was does in
      ((same_entries t.does ∙ quiet_command (event_of x.state now c) reply, refl), one_command now c x y reply d t was)
  moves_open (Took (input.Turn now) reply) x y d was does =
      one_turn now x y reply d (of_open _ _ was does)
  moves_open (Batch now cs rs) x y d was does = ((same_entries does.does, refl), one_batch now cs rs x y d does)
  moves_open (Finished now end) x y d was does =
      one_finish now x y end d (of_open _ _ was does)
  moves_open (Tidied end) x y d was does =
      let t = of_open _ _ was does.0 in
      ((same_entries does.1, refl), one_tidy end x y d t.0 t.1 does.1 was)
  moves_open Cleared x y d was does = ((same_entries does.1, refl), ap machine_of does.0, does.1)
  moves_open Abandoned x y d was does =
      ((same_entries does.1, refl), (ap (λ (z : ExecutorView S). z.is_open) does.0.2, does.1))

  moves : (o : Bool) (e : Exchange) (x y : ExecutorView S) (d : Effects) → x.is_open ≡ o → Does view e x y d
      → MovesWhile o (label_in view o e x y d) (machine_of x) (machine_of y) d
  moves true e x y d was does = (moves_open e x y d was does, memory_reported view e x y d does)
  moves false e x y d was does =
      let none = does_nothing view e x y d was does in
      ((same_entries none.1.nothing, refl), none.0, (none.1.is_closed, none.1.nothing))

  -- calls, one after the other
  pub moves_all : (es : List Exchange) (x y : ExecutorView S) (d : Effects) (calls : Calls view x es y d)
      → MovesAll (labels view x es y d calls) (machine_of x) (machine_of y) d
  moves_all [] x y d calls = (ap machine_of calls.0, calls.1)
  moves_all (e ∷ es) x y d (mid, first, later, does, rest, is) =
      (machine_of mid, first, later, moves x.is_open e x mid first refl does, moves_all es mid y later rest, is)

  -- the answers in their labels are those that their children gave
  pub labels_answers : (es : List Exchange) (x y : ExecutorView S) (d : Effects) (calls : Calls view x es y d)
      → flat_map (λ l. l.answers) (labels view x es y d calls) ≡ d.entries
  labels_answers [] x y d calls = sym (same_entries calls.1)
  labels_answers (e ∷ es) x y d (mid, first, later, does, rest, is) =
      ap (λ (l : List Entry). first.entries ++ l) (labels_answers es mid y later rest) ∙ sym (same_entries is)
