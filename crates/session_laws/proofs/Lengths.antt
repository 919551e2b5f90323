-- How long the events of commands and of turns are at most.
use Rattle.std.proofs.Common.{◌≡◌, ℕ, suc, ◌+◌, ◌*◌, ◌≤◌, false, List, [], ◌∷◌, ◌++◌, map, length, Option, Some, None, option_to_list, Ok, sym, ap, subst, arith, length-append, append_assoc}
use Rattle.std.specs.List.{AllByRecursion}
use Rattle.std.proofs.lemmas.Bool.{ltb-false}
use Rattle.std.proofs.lemmas.List.Concat.{flat_map-cons}
use Rattle.ocf_model.specs.Answer.{asked_event, event_of, moment, tests}
use Rattle.ocf_model.specs.Due.{Due}
use Rattle.ocf_types.specs.Encoding.{HasNoParams, encoded_event}
use Rattle.ocf_types.specs.Kinds.{Command, Event, Step}
use Rattle.ocf_types.specs.Lawful.{IsId}
use Rattle.ocf_types.specs.Layouts.{current}
use Rattle.ocf_types.specs.LengthLemmas.{id_short}
use Rattle.ocf_types.specs.Limits.{event_limit, longest_begin, longest_result}
use Rattle.ocf_model.specs.RegistryLemmas.{passed}
use Rattle.ocf_model.specs.State.{Registry, State}
use Rattle.ocf_types.specs.declared.command.CommandOf.TheVariants as command
use Rattle.ocf_types.specs.declared.event.Change.TheVariants as change
use Rattle.ocf_types.specs.declared.event.Step.TheVariants as step
use Rattle.ocf_types.specs.declared.operation.Op.{Op}
use Rattle.ocf_types.specs.declared.operation.Recur.{Recur}
use Rattle.ocf_types.specs.declared.operation.Running.{Running}
use Rattle.ocf_types.specs.declared.outcome.RunEnd.{RunEnd}
use Rattle.ocf_model.proofs.Lengths.{length-begin, length-event, length-result, length-step, step_short}
use Rattle.store_model.specs.Batches.{encoded_batch}
use Rattle.exec_ledger.specs.Actives.{Active, active_of, all_in}
use Rattle.exec_turn.specs.Actives.{result_of}
use Rattle.exec_turn.specs.Picks.{ArePicks, begin_of, begins, begun_in}
use Rattle.exec_turn.specs.Polls.{Polled, ending, results}
use Rattle.session_laws.specs.Named.{IsNamed}

-- an event of a step without parameters
small_step : (at : ℕ) (id : List ℕ) (s : Step) → IsId id → HasNoParams (change.Step id s)
    → length (encoded_event (record { at = at; change = change.Step id s })) ≤ event_limit
small_step at id s is plain = omega (arith, length-event current at (change.Step id s), length-step current id s, id_short id is, step_short id s plain)

-- the event of a command
asked_short : (s : State) (now : ℕ) (c : Command) → IsNamed c
    → AllByRecursion (λ t. t.1 ≡ false) (tests s c (length (encoded_event (asked_event s now c))))
    → length (encoded_event (asked_event s now c)) ≤ event_limit
asked_short s now (command.Register r) named p = ltb-false _ _ p.1.1.0
asked_short s now (command.Unregister id) named p = omega (arith, length-event current (moment s now) (change.Unregister id), id_short id named)
asked_short s now (command.SetParams id ps) named p = ltb-false _ _ p.1.0
asked_short s now (command.Exec id t timeout) named p =
    let o : Op = record { call = s.next_call; task = t; timeout = timeout } in
    small_step (moment s now) id (step.Exec o) named tt
asked_short s now (command.Recur id interval timeout check) named p =
    let m : Recur = record { call = s.next_call; interval = interval; timeout = timeout; check = check } in
    small_step (moment s now) id (step.Recur m) named tt
asked_short s now (command.Cancel id interval) named p = small_step (moment s now) id (step.Cancel interval) named tt
asked_short s now (command.Forget id) named p = small_step (moment s now) id step.Forget named tt
asked_short s now (command.Withdraw id call) named p = small_step (moment s now) id (step.Withdraw call) named tt

pub command_short : (s : State) (now : ℕ) (c : Command) (e : Event) → IsNamed c → event_of s now c ≡ Ok e → length (encoded_event e) ≤ event_limit
command_short s now c e named is =
    let p = passed (tests s c (length (encoded_event (asked_event s now c)))) (asked_event s now c) e is in
    subst (λ (x : Event). length (encoded_event x) ≤ event_limit) p.0 (asked_short s now c named p.1)

-- a result, and a begin
result_short : (at : ℕ) (a : Active) (end : RunEnd) → IsId a.id → length (encoded_event (result_of at a end)) ≤ longest_result
result_short at a end is =
    let what : Step = step.Result a.running.run end in
    omega (arith, length-event current at (change.Step a.id what), length-step current a.id what, length-result a.running.run end, id_short a.id is)

begin_short : (at : ℕ) (a : Active) → IsId a.id → length (encoded_event (begin_of at a)) ≤ longest_begin
begin_short at a is =
    let what : Step = step.Begin a.running.call a.running.run in
    omega (arith, length-event current at (change.Step a.id what), length-step current a.id what, length-begin a.running.call a.running.run, id_short a.id is)

-- the results of polls
ended_short : (at : ℕ) (a : Active) (o : Option RunEnd) (es : List Event) (n : ℕ) → IsId a.id → length (encoded_batch es) ≤ n
    → length (encoded_batch (map (result_of at a) (option_to_list o) ++ es)) ≤ longest_result + n
ended_short at a None es n is less = omega (arith, less)
ended_short at a (Some end) es n is less =
    omega (
      arith,
      less,
      result_short at a end is,
      ap (λ (t : List ℕ). length t) (flat_map-cons encoded_event (result_of at a end) es),
      length-append (encoded_event (result_of at a end)) (encoded_batch es),
    )

pub results_short : (at : ℕ) (ps : List Polled) → AllByRecursion (λ p. IsId p.who.id) ps → length (encoded_batch (results at ps)) ≤ longest_result * length ps
results_short at [] named = omega arith
results_short at (p ∷ ps) named =
    let one = ended_short at p.who (ending at p.who.running p.poll) (results at ps) (longest_result * length ps) named.0 (results_short at ps named.1) in
    omega (arith, one)

-- the begins of actions
pub begins_short : (at : ℕ) (bs : List Active) → AllByRecursion (λ a. IsId a.id) bs → length (encoded_batch (begins at bs)) ≤ longest_begin * length bs
begins_short at [] named = omega arith
begins_short at (a ∷ bs) named =
    omega (
      arith,
      begins_short at bs named.1,
      begin_short at a named.0,
      ap (λ (t : List ℕ). length t) (flat_map-cons encoded_event (begin_of at a) (begins at bs)),
      length-append (encoded_event (begin_of at a)) (encoded_batch (begins at bs)),
    )

-- running actions have the ids of their resources
one_named : (id : List ℕ) (o : Option Running) (bs : List Active) → IsId id → AllByRecursion (λ (a : Active). IsId a.id) bs
    → AllByRecursion (λ (a : Active). IsId a.id) (active_of id o ++ bs)
one_named id None bs is named = named
one_named id (Some x) bs is named = (is, named)

pub active_named : (rs : Registry) → AllByRecursion (λ e. IsId e.0) rs → AllByRecursion (λ a. IsId a.id) (all_in rs)
active_named [] named = tt
active_named (e ∷ es) named = one_named e.0 e.1.history.running (all_in es) named.0 (active_named es named.1)

-- so have those that begin, of which there are no more than resources
one_more : (id : List ℕ) (o : Option Running) (bs : List Active) (n : ℕ) → length bs ≤ n → length (active_of id o ++ bs) ≤ n + 1
one_more id None bs n less = omega (arith, less)
one_more id (Some x) bs n less = omega (arith, less)

-- actions of these ids, this many at most
pub record AreFew (bs : List Active) (n : ℕ) : Type 0 where
  pub named : AllByRecursion (λ a. IsId a.id) bs
  pub few : length bs ≤ n

begun_few : (at run : ℕ) (e : List ℕ × _) (call : Option ℕ) (bs : List Active) (n : ℕ) → IsId e.0 → AreFew bs n → AreFew (begun_in at run e call ++ bs) (n + 1)
begun_few at run e None bs n is few = record { named = few.named; few = omega (arith, few.few) }
begun_few at run e (Some call) bs n is few = record {
  named = one_named e.0 _ bs is few.named;
  few = one_more e.0 _ bs n few.few;
}

pub picks_few : (held : List (List ℕ)) (due : Due) (at run : ℕ) (rs : Registry) (bs : List Active) → AllByRecursion (λ e. IsId e.0) rs
    → ArePicks held due at run rs bs → AreFew bs (length rs)
picks_few held due at run [] bs named none = subst (λ (l : List Active). AreFew l 0) (sym none) (record { named = tt; few = omega arith })
picks_few held due at run (e ∷ es) bs named (call, rest, next, picks, is) =
    subst (λ (l : List Active). AreFew l (length (e ∷ es))) (sym is)
    (more (length es) (begun_few at run e call rest (length es) named.0 (picks_few held due at (run + length (begun_in at run e call)) es rest named.1 picks)))
  where
    more : (n : ℕ) → AreFew (begun_in at run e call ++ rest) (n + 1) → AreFew (begun_in at run e call ++ rest) (suc n)
    more n few = record { named = few.named; few = omega (arith, few.few) }

-- a prefix of few actions
pub first_few : (bs rest : List Active) (n : ℕ) → AreFew (bs ++ rest) n → AreFew bs n
first_few bs rest n few = record { named = left bs few.named; few = omega (arith, few.few, length-append bs rest) }
  where
    left : (xs : List Active) → AllByRecursion (λ (a : Active). IsId a.id) (xs ++ rest) → AllByRecursion (λ (a : Active). IsId a.id) xs
    left [] all = tt
    left (x ∷ xs) all = (all.0, left xs all.1)

-- one after another
pub picked_more : (bs : List Active) (next : Active) (later : List Active) (n : ℕ) → AreFew (bs ++ next ∷ later) n → AreFew (bs ++ next ∷ []) n
picked_more bs next later n few =
    first_few (bs ++ next ∷ []) later n (subst (λ (l : List Active). AreFew l n) (sym (append_assoc bs (next ∷ []) later)) few)
