-- The history of the example is a behaviour of the machine and keeps the promise, by computing.
use Rattle.std.proofs.Common.{◌≡◌, inl, inr, ℕ, ◌+◌, ◌<◌, true, false, List, [], ◌∷◌, ◌++◌, Some, Ok, refl, sym, ap, subst, ◌∙◌, arith}
use Rattle.std.specs.Prelude.{Bool, codes, filter, if◌then◌else◌, nat_eq, not}
use Rattle.std.specs.Str.{bytes_eq}
use Rattle.std.specs.List.{list_any}
use Rattle.std.specs.Fmt.{digits}
use Rattle.ocf_model.specs.Answer.{moment}
use Rattle.ocf_types.specs.Encoding.{eight_bytes, encoded_event_in}
use Rattle.ocf_types.specs.Limits.{part_limit, reserve, slot_frame}
use Rattle.ocf_types.specs.declared.notice.Notice.{Notice}
use Rattle.store_model.specs.Batches.{IsTooLong}
use Rattle.ocf_types.specs.Kinds.{Event}
use Rattle.ocf_model.specs.State.{State, after_all, empty}
use Rattle.ocf_types.specs.Actions.{plain, task}
use Rattle.ocf_types.specs.declared.action.Action.TheVariants.{Start}
use Rattle.ocf_types.specs.declared.event.Change.TheVariants as change
use Rattle.ocf_types.specs.declared.event.Step.TheVariants as step
use Rattle.ocf_types.specs.declared.operation.Running.{Running}
use Rattle.ocf_model.specs.declared.reply.ReplyOf.TheVariants as reply
use Rattle.ocf_model.specs.declared.reply.TurnEnd.TheVariants as turn_end
use Rattle.child_model.specs.declared.answer.Entry.{Entry}
use Rattle.exec_ledger.specs.Actives.{Active}
use Rattle.exec_ledger.specs.Lemmas.{asked_one}
use Rattle.exec_ledger.specs.Pieces.{Effects, HasBegin, no_effects}
use Rattle.exec_ledger.specs.BatchStarts.{batch_start}
use Rattle.exec_turn.specs.Turn.{TurnAnswers}
use Rattle.executor_laws.specs.Histories.{EndsBetween, InterruptedOnce, IsWithin, interruptions, is_of}
use Rattle.executor.specs.Interruptions.{dropped, interrupted, interruption as interruption_of}
use Rattle.executor_laws.specs.Machine.{Machine, MovesWhile, after_events, with_answers}
use Rattle.executor_laws.specs.Behaves.{Behaves, HasBegins, Remains, SeenUptime, opened_on}
use Rattle.executor_laws.specs.Promise.{AllBegun, AllRecorded, IsKept, claimed}
use Rattle.test_incarnations.specs.OneHistory.{begins, boots, exec, first, in_opening, interruption, label, one_history}
use Rattle.test_incarnations.specs.OneHistory.{queues, register, registers, remaining, started, turn, uncalled, unstarted, web}

-- the machine at first, and after each call
abbrev pub at_first : Machine
at_first = opened_on empty first

abbrev pub with_resource : Machine
with_resource = after_events at_first (registers ∷ [])

abbrev pub with_action : Machine
with_action = after_events with_resource (queues ∷ [])

abbrev with_run : Machine
with_run = with_answers (after_events with_action (begins ∷ [])) (started ∷ [])

-- the effects of a call
abbrev did : List Entry → Event → Effects
did answers e = record { entries = answers; events = e ∷ []; pending = [] }

registers_moves : MovesWhile true (label register [] 44) at_first with_resource (did [] registers)
unfolding encoded_event_in eight_bytes
registers_moves = (
  (
    (refl, refl),
    inl (reply.Done ∷ [], registers ∷ [], (registers ∷ [], [], inl (refl, refl), refl, refl), inl (refl, (refl, refl))),
  ),
  λ bad. absurd (cc),
)

exec_moves : MovesWhile true (label exec [] 79) with_resource with_action (did [] queues)
unfolding encoded_event_in eight_bytes digits
exec_moves = (
  (
    (refl, refl),
    inl (
      reply.Accepted 1 (codes "web_start_0") ∷ [],
      queues ∷ [],
      (queues ∷ [], [], inl (refl, refl), refl, refl),
      inl (refl, (refl, refl)),
    ),
  ),
  λ bad. absurd (cc),
)

-- the turn picks the start, whose begin fits after the two records
begin_fits : IsTooLong 112 (begins ∷ []) → ⊥
unfolding encoded_event_in eight_bytes
begin_fits bad = let too_long : part_limit < 112 + slot_frame + 29 + 1 + reserve = bad in omega (arith, too_long)

abbrev pub begun : Active
begun = record { id = web; running = record { call = 1; run = 1; task = task Start plain; timeout = 20000; interval = 0; since = 1030 } }

done : turn_end.Done ≡ turn_end.Memory → ⊥
done bad = cc

abbrev answers : TurnAnswers [] turn_end.Done (batch_start with_action.state with_action.due 112 1030 false)
answers = record {
  polled = [];
  begun = begun ∷ [];
  started = record { what = begun; answer = Ok tt } ∷ [];
  clock = 25;
  each_polled = record { each = refl; bytes = tt };
  picked = (((Some 1, [], refl, refl, refl), record { runs = omega arith; reserve = λ some bad. begin_fits bad }), λ bad. absurd (done bad));
  each_started = refl;
}

turn_moves : MovesWhile true (label turn (started ∷ []) 112) with_action with_run (did (started ∷ []) begins)
unfolding encoded_event_in eight_bytes
turn_moves = (
  (
    turn_end.Done,
    refl,
    record {
      turns = (answers, refl, refl);
      answers = refl;
      goes_on = refl;
      full = ((λ bad. absurd (cc)), (λ less. let l : 12 < 3 = less in absurd (omega (arith, l))));
      closes = ((λ bad. absurd (cc)), (λ bad. absurd (cc)));
      cause = λ bad. absurd (cc);
    },
  ),
  λ bad. absurd (cc),
)

-- what remains of each incarnation: of the first one also the begin, since its start was requested
abbrev pub before_boot : List Event
before_boot = registers ∷ queues ∷ begins ∷ []

has_begin : HasBegins first before_boot
has_begin run clock h le =
    let same = asked_one started (record { run = run; at = clock; answer = h.0 }) h.2 in
    subst (λ (n : ℕ). HasBegin n before_boot) (ap (λ (e : Entry). e.run) same) refl

-- an incarnation with these calls that was stopped at this moment, and of which the begin remains or not
abbrev stopped_at : ℕ → SeenUptime
stopped_at stop = record first { stop = stop }

remains_by : (stop : ℕ) (later others : List Event) → begins ∷ [] ≡ later ++ others → HasBegins (stopped_at stop) (registers ∷ queues ∷ later)
    → Remains (stopped_at stop) empty (registers ∷ queues ∷ later)
remains_by stop later others split has = record {
  ran = refl;
  queued = refl;
  returned = with_action;
  last = with_run;
  done = record { entries = []; events = registers ∷ queues ∷ []; pending = [] };
  under_way = did (started ∷ []) begins;
  moves = (
    with_resource,
    did [] registers,
    did [] queues,
    registers_moves,
    (with_action, did [] queues, no_effects, exec_moves, (refl, refl), refl),
    refl,
  );
  goes_on = (with_run, did (started ∷ []) begins, no_effects, turn_moves, (refl, refl), refl);
  holds = (later, others, refl, ap (λ (es : List Event). registers ∷ queues ∷ es) (sym split));
  begins = has;
}

first_remains : Remains first empty before_boot
first_remains = remains_by 25 (begins ∷ []) [] refl has_begin

-- an incarnation without a call
no_call : (now : ℕ) (ran : List Notice) (s : State) → ran ≡ interrupted s (moment s now) → [] ≡ dropped s (moment s now)
    → Remains (uncalled now ran) s []
no_call now ran s ran_is queued_is = record {
  ran = ran_is;
  queued = queued_is;
  returned = opened_on s (uncalled now ran);
  last = opened_on s (uncalled now ran);
  done = no_effects;
  under_way = no_effects;
  moves = (refl, refl);
  goes_on = (refl, refl);
  holds = ([], [], refl, refl);
  begins = λ run clock h le. absurd (omega (arith, h.2.1));
}

-- the begin and the boot that a crash may have lost
not_yet : (es : List Event) → HasBegins (stopped_at 24) es
not_yet es run clock h le =
    let same = asked_one started (record { run = run; at = clock; answer = h.0 }) h.2 in
    let at_is : 25 ≡ clock = ap (λ (e : Entry). e.at) same in absurd (omega (arith, at_is, le))

pub begin_kept : Behaves empty unstarted before_boot
begin_kept = ([], before_boot, refl, (before_boot, remains_by 24 (begins ∷ []) [] refl (not_yet before_boot), refl), refl)

pub begin_lost : Behaves empty unstarted (registers ∷ queues ∷ [])
begin_lost = (
  [],
  registers ∷ queues ∷ [],
  refl,
  (registers ∷ queues ∷ [], remains_by 24 [] (begins ∷ []) refl (not_yet (registers ∷ queues ∷ [])), refl),
  refl,
)

pub boot_kept : Behaves empty in_opening remaining
boot_kept = (before_boot, boots ∷ [], ([], before_boot, refl, (before_boot, first_remains, refl), refl), inr (tt, refl), refl)

pub boot_lost : Behaves empty in_opening before_boot
boot_lost = (before_boot, [], ([], before_boot, refl, (before_boot, first_remains, refl), refl), inl refl, refl)

pub behaves : Behaves empty one_history remaining
behaves = (
  remaining,
  [],
  (
    before_boot,
    boots ∷ [],
    ([], before_boot, refl, (before_boot, first_remains, refl), refl),
    ([], no_call 5000 (interruption ∷ []) (after_all empty before_boot) refl refl, refl),
    refl,
  ),
  ([], no_call 6000 [] (after_all empty remaining) refl refl, refl),
  refl,
)

-- each acknowledgement has its event
recorded : AllRecorded empty (claimed one_history) remaining
unfolding encoded_event_in eight_bytes digits
recorded = inl ((refl, refl), inl ((refl, refl), tt))

-- each start has its begin
begun_all : AllBegun one_history remaining
begun_all = (
  (
    (
      tt,
      λ run clock h le.
          let same = asked_one started (record { run = run; at = clock; answer = h.0 }) h.2 in
          subst (λ (n : ℕ). HasBegin n remaining) (ap (λ (e : Entry). e.run) same) refl,
    ),
    λ run clock h le. absurd (omega (arith, h.2.1)),
  ),
  λ run clock h le. absurd (omega (arith, h.2.1)),
)

-- a list that goes on is not empty
module _ {A : Type 0} where
  not_empty : (xs ys : List A) (y : A) → xs ++ y ∷ ys ≡ [] → ⊥
  not_empty [] ys y is = let bad : y ∷ ys ≡ [] = is in cc
  not_empty (x ∷ xs) ys y is = let bad : x ∷ (xs ++ y ∷ ys) ≡ [] = is in cc

-- no second begin
ends : EndsBetween remaining
ends [] between later f s id call run next_call next_run is first_is second_is =
    absurd (let all : remaining ≡ f ∷ (between ++ s ∷ later) = is in cc)
ends (a ∷ []) between later f s id call run next_call next_run is first_is second_is =
    absurd (let all : remaining ≡ a ∷ f ∷ (between ++ s ∷ later) = is in cc)
ends (a ∷ b ∷ []) [] later f s id call run next_call next_run is first_is second_is =
    absurd (let all : remaining ≡ a ∷ b ∷ f ∷ s ∷ later = is in cc)
ends (a ∷ b ∷ []) (c ∷ between) later f s id call run next_call next_run is first_is second_is =
    absurd (not_empty between later s (let all : remaining ≡ a ∷ b ∷ f ∷ c ∷ (between ++ s ∷ later) = is in cc))
ends (a ∷ b ∷ c ∷ []) between later f s id call run next_call next_run is first_is second_is =
    absurd (let all : remaining ≡ a ∷ b ∷ c ∷ f ∷ (between ++ s ∷ later) = is in cc)
ends (a ∷ b ∷ c ∷ d ∷ before) between later f s id call run next_call next_run is first_is second_is =
    absurd (not_empty before (between ++ s ∷ later) f
    (let all : remaining ≡ a ∷ b ∷ c ∷ d ∷ (before ++ f ∷ (between ++ s ∷ later)) = is in cc))

-- the boot reports the run
abbrev reported_as : List ℕ → ℕ → ℕ → ℕ → Type 0
reported_as id call run at = (x : Running) × (x.call ≡ call) × (x.run ≡ run)
    × (filter (is_of id run) (interruptions empty remaining) ≡ interruption_of id at x ∷ [])

reported_once : reported_as web 1 1 5000
reported_once = (begun.running, refl, refl, refl)

reported : InterruptedOnce empty remaining
reported [] between later f s id call run is first_is second_is none =
    absurd (let all : remaining ≡ f ∷ (between ++ s ∷ later) = is in cc)
reported (a ∷ []) between later f s id call run is first_is second_is none =
    absurd (let all : remaining ≡ a ∷ f ∷ (between ++ s ∷ later) = is in cc)
reported (a ∷ b ∷ []) [] later f s id call run is first_is second_is none =
    let all : remaining ≡ a ∷ b ∷ f ∷ s ∷ later = is in
    let same : begins ≡ f = cc in
    let changed : begins.change ≡ change.Step id (step.Begin call run) = ap (λ (e : Event). e.change) same ∙ first_is in
    let id_is : web ≡ id = cc in
    let call_is : 1 ≡ call = cc in
    let run_is : 1 ≡ run = cc in
    let at_is : 5000 ≡ s.at = cc in
    subst (λ (at : ℕ). reported_as id call run at) at_is
    (subst (λ (n : ℕ). reported_as id call n 5000) run_is
    (subst (λ (n : ℕ). reported_as id n 1 5000) call_is
    (subst (λ (other : List ℕ). reported_as other 1 1 5000) id_is reported_once)))
reported (a ∷ b ∷ []) (c ∷ between) later f s id call run is first_is second_is none =
    absurd (not_empty between later s (let all : remaining ≡ a ∷ b ∷ f ∷ c ∷ (between ++ s ∷ later) = is in cc))
reported (a ∷ b ∷ c ∷ []) between later f s id call run is first_is second_is none =
    absurd (let all : remaining ≡ a ∷ b ∷ c ∷ f ∷ (between ++ s ∷ later) = is in cc)
reported (a ∷ b ∷ c ∷ d ∷ before) between later f s id call run is first_is second_is none =
    absurd (not_empty before (between ++ s ∷ later) f
    (let all : remaining ≡ a ∷ b ∷ c ∷ d ∷ (before ++ f ∷ (between ++ s ∷ later)) = is in cc))

-- the action of the resource begins after it was queued, and no other one begins
in_order : (here : Bool) → IsWithin (filter (λ call. not (list_any (nat_eq call) [])) ((if here then 1 ∷ [] else []) ++ [])) ((if here then 1 ∷ [] else []) ++ [])
in_order true = inl (refl, tt)
in_order false = tt

pub kept : IsKept empty one_history remaining
kept = record {
  recorded = recorded;
  begun = begun_all;
  opening_report = inl (refl, tt);
  order = record {
    runs = ((omega arith, tt), (tt, tt));
    ends = ends;
    reported = reported;
    calls = λ id. in_order (bytes_eq id web);
  };
}
