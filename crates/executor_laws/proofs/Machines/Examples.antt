-- Steps that the machine refuses, and claims of which nothing is recorded.
use Rattle.std.proofs.Common.{◌≡◌, inl, inr, ℕ, ◌+◌, ◌<◌, true, false, List, [], ◌∷◌, ◌++◌, length, map, None, Ok, refl, sym, ap, subst, ◌∙◌, arith}
use Rattle.std.specs.List.{AllByRecursion}
use Rattle.ocf_model.specs.Answer.{asked_event, moment, tests}
use Rattle.ocf_model.specs.Due.{Due, IsPick}
use Rattle.ocf_types.specs.Kinds.{Event}
use Rattle.ocf_model.specs.RegistryLemmas.{passed}
use Rattle.ocf_types.specs.Encoding.{encoded_event}
use Rattle.ocf_model.specs.State.{Registry, State, after_all, empty}
use Rattle.ocf_types.specs.declared.command.CommandOf.TheVariants as command
use Rattle.ocf_types.specs.declared.event.Change.TheVariants as change
use Rattle.ocf_types.specs.declared.notice.Notice.{Notice}
use Rattle.ocf_model.specs.declared.reply.ReplyOf.TheVariants as reply
use Rattle.ocf_model.specs.declared.reply.TurnEnd.{TurnEnd}
use Rattle.ocf_model.specs.declared.reply.TurnEnd.TheVariants as turn_end
use Rattle.child_model.specs.Children.{is_held, start_answer}
use Rattle.child_model.specs.declared.answer.Entry.{Entry}
use Rattle.child_model.specs.declared.answer.Poll.{Poll}
use Rattle.child_model.specs.declared.answer.Poll.TheVariants as poll
use Rattle.exec_ledger.specs.Actives.{Active, active}
use Rattle.exec_ledger.specs.BatchStarts.{BatchStart, batch_start, following}
use Rattle.exec_turn.specs.Picks.{ArePicks, begin_of, begins as begins_at, begun_in}
use Rattle.exec_turn.specs.Polls.{Polled, entries_of, polls, result_notices, results}
use Rattle.exec_turn.specs.Starts.{Started, refusal_notices, refusals, starts}
use Rattle.exec_ledger.specs.Lemmas.{of_open, same_entries, same_events}
use Rattle.exec_ledger.specs.Pieces.{Effects}
use Rattle.exec_turn.specs.Turn.{IsTurn, Whole}
use Rattle.executor.specs.Exchanges.{Took}
use Rattle.executor_laws.specs.Machine.{Label, Machine, MovesWhile, cleared}
use Rattle.executor_laws.specs.Promise.{Acknowledged, AllRecorded}
use Rattle.executor_laws.specs.Behaves.{HasBegins, SeenUptime}
use Rattle.executor.specs.declared.session.InputOf.TheVariants as input
use Rattle.executor_laws.proofs.History.Examples.{asked, r1, registered}

-- lists without an entry
module _ {A : Type 0} where
  none_before : (xs ys : List A) → xs ++ ys ≡ [] → xs ≡ []
  none_before [] ys is = refl
  none_before (x ∷ xs) ys is = absurd (let bad : x ∷ (xs ++ ys) ≡ [] = is in cc)

  none_after : (xs ys : List A) → xs ++ ys ≡ [] → ys ≡ []
  none_after [] ys is = is
  none_after (x ∷ xs) ys is = absurd (let bad : x ∷ (xs ++ ys) ≡ [] = is in cc)

module _ {A B : Type 0} where
  none_mapped : (f : A → B) (xs : List A) → map f xs ≡ [] → xs ≡ []
  none_mapped f [] is = refl
  none_mapped f (x ∷ xs) is = absurd (let bad : f x ∷ map f xs ≡ [] = is in cc)

-- each poll is an answer
no_polls : (at : ℕ) (ps : List Polled) → polls at ps ≡ [] → ps ≡ []
no_polls at [] is = refl
no_polls at (p ∷ ps) is = absurd (by p.poll (none_before (entries_of at p.who.running p.poll p.kill) (polls at ps) is))
  where
    by : (a : Poll) → entries_of at p.who.running a p.kill ≡ [] → ⊥
    by poll.Running is = cc
    by (poll.Exited code) is = cc
    by (poll.Signaled signal) is = cc
    by poll.Fault is = cc

-- a turn at 10, by its end, its answers and its notices
abbrev pub turned : TurnEnd → List Entry → List Notice → Label
turned end answers notices =
    record { exchange = Took (input.Turn 10) (reply.Turn end); answers = answers; notices = notices; held = []; tail = 44; epoch = 1; faults = (0, 0) }

-- an open machine with one action in its queue, and none running, whose empty book has room for this many answers
abbrev waiting : ℕ → Machine
waiting room =
    record { is_open = true; state = after_all empty (registered ∷ asked 1 ∷ []); due = λ id call. None; refuses = false; room = room; booked = 0 }

-- the answers in a turn that ends done
done_so : (answers : List Entry) (notices : List Notice) (m n : Machine) (did : Effects)
    → MovesWhile true (turned turn_end.Done answers notices) m n did
    → (x : BatchStart) × (x.state ≡ m.state) × (answers ≡ did.entries) × Whole [] turn_end.Done x did notices
done_so answers notices m n did ((end, is, t), memory) =
    let same : end ≡ turn_end.Done = (let reported : reply.Turn turn_end.Done ≡ reply.Turn end = is in cc) in
    let x : BatchStart = batch_start m.state m.due 44 (moment m.state 10) m.refuses in
    (x, refl, t.answers, subst (λ (e : TurnEnd). IsTurn [] e x did notices) same t.turns)

-- a notice that no answer gives
unanswered : (a : Notice) (more : List Notice) (m n : Machine) (did : Effects)
    → MovesWhile true (turned turn_end.Done [] (a ∷ more)) m n did → ⊥
unanswered a more m n did moves =
    let (x, here, answered, (t, is, reported)) = done_so [] (a ∷ more) m n did moves in
    let entries = answered ∙ same_entries is in
    let no_ps = no_polls x.at t.polled (none_before (polls x.at t.polled) (starts t.clock t.started) (sym entries)) in
    let no_xs = none_mapped (λ (s : Started). record { run = s.what.running.run; at = t.clock; answer = start_answer s.answer }) t.started
    (none_after (polls x.at t.polled) (starts t.clock t.started) (sym entries)) in
    let bad : a ∷ more ≡ [] =
    reported ∙ (λ i. result_notices x.at (no_ps i) ++ refusal_notices x.at (no_xs i)) in
    cc

-- a start of an agent without its begin
unbegun : (e : Entry) (room : ℕ) (notices : List Notice) (n : Machine) (did : Effects) → did.events ≡ []
    → MovesWhile true (turned turn_end.Done (e ∷ []) notices) (waiting room) n did → ⊥
unbegun e room notices n did none moves =
    let (x, here, answered, (t, is, reported)) = done_so (e ∷ []) notices (waiting room) n did moves in
    let entries = answered ∙ same_entries is in
    let events = sym none ∙ same_events is in
    let early : List Event = results x.at t.polled ++ begins_at x.at t.begun in
    let no_bs = none_mapped (begin_of x.at) t.begun
    (none_after (results x.at t.polled) (begins_at x.at t.begun) (none_before early (refusals x.at t.started) (sym events))) in
    let no_xs = none_mapped (λ (s : Started). s.what) t.started (t.each_started ∙ no_bs) in
    let each : map (λ p. p.who) t.polled ≡ [] = t.each_polled.each ∙ ap (λ (s : State). active s) here in
    let no_ps = none_mapped (λ (p : Polled). p.who) t.polled each in
    let bad : e ∷ [] ≡ [] = entries ∙ (λ i. polls x.at (no_ps i) ++ starts t.clock (no_xs i)) in
    cc

-- where all resources are held nothing is begun
held_rest : (held : List (List ℕ)) (due : Due) (at run : ℕ) (rs : Registry) (bs : List Active)
    → AllByRecursion (λ e. is_held held e.0 ≡ true) rs → ArePicks held due at run rs bs → bs ≡ []
held_rest held due at run [] bs all picks = picks
held_rest held due at run (e ∷ es) bs all (call, rest, next, later, is) =
    let none : call ≡ None = of_open (call ≡ None) (IsPick e.1 (due e.0) at call) all.0 next in
    let others = held_rest held due at (run + length (begun_in at run e call)) es rest all.1 later in
    is ∙ (λ i. begun_in at run e (none i) ++ others i)

-- a start of an agent of a resource that is held
held_begun : (e : Entry) (room : ℕ) (notices : List Notice) (n : Machine) (did : Effects)
    → MovesWhile true (record (turned turn_end.Done (e ∷ []) notices) { held = r1 ∷ [] }) (waiting room) n did → ⊥
held_begun e room notices n did ((end, is, t), memory) =
    let same : end ≡ turn_end.Done = (let reported : reply.Turn turn_end.Done ≡ reply.Turn end = is in cc) in
    let x : BatchStart = batch_start (waiting room).state (waiting room).due 44 (moment (waiting room).state 10) (waiting room).refuses in
    let whole : Whole (r1 ∷ []) turn_end.Done x did notices = subst (λ (k : TurnEnd). IsTurn (r1 ∷ []) k x did notices) same t.turns in
    let no_ps = none_mapped (λ (p : Polled). p.who) whole.0.polled whole.0.each_polled.each in
    let picks = subst (λ (ps : List Polled). ArePicks (r1 ∷ []) (following x (results x.at ps)).due x.at (following x (results x.at ps)).state.next_run
    (following x (results x.at ps)).state.resources whole.0.begun) no_ps whole.0.picked.0.0 in
    let no_bs = held_rest (r1 ∷ []) (waiting room).due x.at (waiting room).state.next_run (waiting room).state.resources whole.0.begun (refl, tt) picks in
    let no_xs = none_mapped (λ (s : Started). s.what) whole.0.started (whole.0.each_started ∙ no_bs) in
    let bad : e ∷ [] ≡ [] = t.answers ∙ same_entries whole.1 ∙ (λ i. polls x.at (no_ps i) ++ starts whole.0.clock (no_xs i)) in
    cc

-- the book reported as full where it takes three answers for each resource
full_with_reserve : (answers : List Entry) (notices : List Notice) (n : Machine) (did : Effects)
    → MovesWhile true (turned turn_end.BookFull answers notices) (waiting 3) n did → ⊥
full_with_reserve answers notices n did ((end, is, t), memory) =
    let same : end ≡ turn_end.BookFull = (let reported : reply.Turn turn_end.BookFull ≡ reply.Turn end = is in cc) in
    let less : 3 < 3 = t.full.0 same in omega (arith, less)

-- and where three answers were in it before it was emptied
full_though_emptied : (answers : List Entry) (notices : List Notice) (n : Machine) (did : Effects)
    → MovesWhile true (turned turn_end.BookFull answers notices) (cleared (record (waiting 0) { booked = 3 })) n did → ⊥
full_though_emptied answers notices n did ((end, is, t), memory) =
    let same : end ≡ turn_end.BookFull = (let reported : reply.Turn turn_end.BookFull ≡ reply.Turn end = is in cc) in
    let less : 3 < 3 = t.full.0 same in omega (arith, less)

-- lack of memory without a refused growth
memory_at_once : (answers : List Entry) (room : ℕ) (notices : List Notice) (n : Machine) (did : Effects)
    → MovesWhile true (turned turn_end.Memory answers notices) (waiting room) n did → ⊥
memory_at_once answers room notices n did moves = let bad : false ≡ true = moves.1 refl in cc

-- a crash after which the begin of an agent that was spawned is lost
abbrev started : SeenUptime
started = record {
  now = 0;
  ran = [];
  queued = [];
  calls = turned turn_end.Done (record { run = 1; at = 3; answer = start_answer (Ok tt) } ∷ []) [] ∷ [];
  begun = [];
  stop = 5;
  refuses = false;
  room = 256;
  booked = 0;
}

lost : HasBegins started (registered ∷ asked 1 ∷ []) → ⊥
lost h =
    let bad : false ≡ true = h 1 3 (start_answer (Ok tt), tt, (0, omega arith, refl)) (omega arith) in cc

-- the acknowledgement of one command, and the event of another
crossed : AllRecorded empty (Acknowledged 0 (command.Unregister r1) reply.Done ∷ []) (registered ∷ []) → ⊥
crossed (inl h) =
    let c = command.Unregister r1 in
    let same = (passed (tests empty c (length (encoded_event (asked_event empty 0 c)))) (asked_event empty 0 c) registered h.0.0).0 in
    let bad : change.Unregister r1 ≡ registered.change = ap (λ (e : Event). e.change) same in
    cc
crossed (inr bad) = bad
