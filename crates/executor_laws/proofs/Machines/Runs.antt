-- The events that remain of a behaviour of the machine apply.
use Rattle.std.proofs.Common.{◌≡◌, inl, inr, ℕ, ◌+◌, ◌≤◌, Bool, true, false, List, [], ◌∷◌, ◌++◌, length, map, Option, Some, None, Result, Ok, Err, option_to_list, refl, sym, ap, subst, ◌∙◌, append_assoc}
use Rattle.std.specs.Prelude.{if◌then◌else◌}
use Rattle.std.specs.List.{AllByRecursion, IsDistinct}
use Rattle.std.specs.Map.{keys_of}
use Rattle.std.specs.Str.{bytes_eq}
use Rattle.std.proofs.lemmas.Bool.{false≢true}
use Rattle.std.proofs.lemmas.List.{append-nil}
use Rattle.std.proofs.lemmas.Simd.{map-map}
use Rattle.ocf_model.specs.Answer.{event_of, moment}
use Rattle.ocf_model.specs.Boot.{any_busy, boot_at}
use Rattle.ocf_types.specs.Kinds.{Command, Event}
use Rattle.ocf_model.specs.Answer.{Reply}
use Rattle.ocf_model.specs.StateLemmas.{after_all-append}
use Rattle.ocf_model.specs.LawfulState.{IsLawfulState}
use Rattle.ocf_types.specs.Limits.{num_max}
use Rattle.ocf_model.specs.State.{State, after_all}
use Rattle.ocf_types.specs.declared.command.RequestOf.TheVariants as asked
use Rattle.ocf_types.specs.declared.outcome.RunEnd.{RunEnd}
use Rattle.ocf_types.specs.declared.outcome.StartFault.{StartFault}
use Rattle.ocf_model.specs.declared.refusal.Refusal.{Refusal}
use Rattle.ocf_model.specs.declared.reply.TidyEnd.{TidyEnd}
use Rattle.ocf_model.specs.declared.reply.TidyEnd.TheVariants as tidy
use Rattle.ocf_model.specs.declared.reply.TurnEnd.{TurnEnd}
use Rattle.ocf_model.specs.declared.reply.TurnEnd.TheVariants as turn_end
use Rattle.ocf_types.specs.declared.notice.Notice.{Notice}
use Rattle.exec_ledger.specs.Actives.{Active, active}
use Rattle.exec_ledger.specs.BatchStarts.{BatchStart, following, batch_start}
use Rattle.exec_turn.specs.Picks.{ArePicks, begins}
use Rattle.exec_turn.specs.Polls.{Polled, ending, ends_of, results}
use Rattle.exec_turn.specs.Starts.{Started, refusals, refused_end}
use Rattle.exec_ledger.specs.Lemmas.{same_events, same_pending}
use Rattle.exec_ledger.specs.Pieces.{Effects, followed_by, no_effects, batch_effects}
use Rattle.exec_turn.specs.Turn.{EachPolled, IsFinish, IsTurn, PickedAt, TurnAnswers, TurnKind, Whole}
use Rattle.executor_laws.specs.Histories.{Follow, IsInOrder}
use Rattle.executor.specs.Exchanges.{Abandoned, Cleared, Exchange, Finished, Batch, Tidied, Took}
use Rattle.executor_laws.specs.Incarnations.{boots}
use Rattle.executor_laws.specs.Machine.{GoesOn, Label, Machine, MovesAll, MovesOpen, MovesTurn, MovesWhile, TakesAll, TidyEnds}
use Rattle.executor_laws.specs.Behaves.{Opening, Behaves, Seen, Serving, RemainOf, opened_on}
use Rattle.exec_ledger.specs.Boots.{booted}
use Rattle.exec_ledger.specs.Together.{Adds, Answered}
use Rattle.executor.specs.declared.session.InputOf.TheVariants as input
use Rattle.executor_laws.proofs.Isolation.Lists.{each_unmap}
use Rattle.executor_laws.proofs.History.Events.{runs_ascend}
use Rattle.executor_laws.proofs.History.Order.{begin_in_order}
use Rattle.executor_laws.proofs.History.Runs.{ends_between, follow_first}
use Rattle.executor_laws.proofs.History.TurnAnswers.{apart_all, interrupted_once}
use Rattle.executor_laws.proofs.Incarnations.Whole.{boots_is}
use Rattle.executor_laws.proofs.Machines.Follows.{AtMostOne, BegunSo, RunsHere, all_run, begins_follow, command_applies, drawn, ends_follow, entries_found, follow_both, ids_of}

-- ids differ, and the next call number is not above the greatest
pub record Fine (s : State) : Type 0 where
  pub apart : IsDistinct bytes_eq (keys_of s.resources)
  pub low : s.next_call ≤ num_max

pub fine_on : (s : State) (es : List Event) → Follow s es → Fine s → Fine (after_all s es)
fine_on s es follow fine = record { apart = apart_all [] 0 s es follow fine.apart; low = drawn s es follow fine.low }

-- commands at one moment
one_follows : (s : State) (now : ℕ) (c : Command) (r : Reply) (es : List Event) → s.next_call ≤ num_max → Adds (event_of s now c) r es → Follow s es
one_follows s now c r es low adds = by (event_of s now c) refl adds
  where
    by : (v : Result Event Refusal) → event_of s now c ≡ v → Adds v r es → Follow s es
    by (Err refusal) is adds = subst (Follow s) (sym adds.1) tt
    by (Ok e) is (inl reported) = subst (Follow s) (sym reported.1) (command_applies s now c e low is, tt)
    by (Ok e) is (inr memory) = subst (Follow s) (sym memory.2) tt

answered_follow : (s : State) (now : ℕ) (cs : List Command) (rs : List Reply) (es : List Event) → s.next_call ≤ num_max
    → Answered now s cs rs es → Follow s es
answered_follow s now [] [] es low is = subst (Follow s) (sym is) tt
answered_follow s now [] (r ∷ rs) es low bad = absurd bad
answered_follow s now (c ∷ cs) [] es low bad = absurd bad
answered_follow s now (c ∷ cs) (r ∷ rs) es low (first, later, adds, rest, all) =
    let one = one_follows s now c r first low adds in
    subst (Follow s) (sym all)
    (follow_both s first later one (answered_follow (after_all s first) now cs rs later (drawn s first one low) rest))

-- batches of a turn
few_ends : (at : ℕ) (p : Polled) → AtMostOne (ends_of at p)
few_ends at p = by (ending at p.who.running p.poll)
  where
    by : (o : Option RunEnd) → AtMostOne (option_to_list o)
    by None = inl refl
    by (Some end) = inr (end, refl)

few_refused : (x : Started) → AtMostOne (refused_end x.answer)
few_refused x = by x.answer
  where
    by : (a : Result Unit StartFault) → AtMostOne (refused_end a)
    by (Ok t) = inl refl
    by (Err fault) = inr (_, refl)

results_follow : (at : ℕ) (s : State) (ps : List Polled) → map (λ p. p.who) ps ≡ active s → Fine s → Follow s (results at ps)
results_follow at s ps each fine =
    let all = all_run s fine.apart in
    ends_follow at (λ p. p.who) (ends_of at) (few_ends at) s ps
    (each_unmap (RunsHere s) (λ p. p.who) ps (subst (AllByRecursion (RunsHere s)) (sym each) all.0))
    (subst (IsDistinct bytes_eq) (ap ids_of (sym each) ∙ map-map (λ (a : Active). a.id) (λ (p : Polled). p.who) ps) all.1)

-- picks, and a prefix of them
picks_so : (held : List (List ℕ)) (end : TurnEnd) (x : BatchStart) (bs : List Active) → PickedAt held end x bs
    → (out : List Active) × ArePicks held x.due x.at x.state.next_run x.state.resources (bs ++ out) × (x.state.next_run + length bs ≤ num_max)
picks_so held turn_end.Done x bs p =
    ([], subst (ArePicks held x.due x.at x.state.next_run x.state.resources) (sym (append-nil bs)) p.0.0, p.0.1.runs)
picks_so held turn_end.RunsSpent x bs p = (p.0.0.next ∷ p.0.0.later, p.0.0.picks, p.0.1.runs)
picks_so held turn_end.Full x bs p = (p.0.0.next ∷ p.0.0.later, p.0.0.picks, p.0.1.runs)
picks_so held turn_end.Memory x bs p = (p.0.0.next ∷ p.0.0.later, p.0.0.picks, p.0.1.runs)
picks_so held turn_end.Closed x bs p = absurd p.0.0
picks_so held turn_end.BookFull x bs p = absurd p.0.0
picks_so held turn_end.Disk x bs p = absurd p.0.0

begun_so : (held : List (List ℕ)) (end : TurnEnd) (x : BatchStart) (bs : List Active) → PickedAt held end x bs → Fine x.state
    → BegunSo x.state x.at bs
begun_so held end x bs picked fine =
    let p = picks_so held end x bs picked in
    begins_follow held x.due x.at x.state.next_run x.state.resources bs p.0 p.1 fine.apart x.state refl p.2
    (entries_found x.state.resources fine.apart)

refusals_follow : (at : ℕ) (s : State) (bs : List Active) (xs : List Started) → map (λ x. x.what) xs ≡ bs
    → AllByRecursion (RunsHere s) bs → IsDistinct bytes_eq (ids_of bs) → Follow s (refusals at xs)
refusals_follow at s bs xs each runs apart =
    ends_follow at (λ x. x.what) (λ x. refused_end x.answer) few_refused s xs
    (each_unmap (RunsHere s) (λ x. x.what) xs (subst (AllByRecursion (RunsHere s)) (sym each) runs))
    (subst (IsDistinct bytes_eq) (ap ids_of (sym each) ∙ map-map (λ (a : Active). a.id) (λ (x : Started). x.what) xs) apart)

two_follow : (held : List (List ℕ)) (end : TurnEnd) (x : BatchStart) (ps : List Polled) (bs : List Active) → EachPolled x ps
    → PickedAt held end (following x (results x.at ps)) bs
    → Fine x.state → Follow x.state (results x.at ps ++ begins x.at bs)
two_follow held end x ps bs polled picked fine =
    let one = results_follow x.at x.state ps polled.each fine in
    follow_both x.state (results x.at ps) (begins x.at bs) one
    (begun_so held end (following x (results x.at ps)) bs picked (fine_on x.state (results x.at ps) one fine)).follow

three_follow : (held : List (List ℕ)) (end : TurnEnd) (x : BatchStart) (t : TurnAnswers held end x) → Fine x.state
    → Follow x.state (results x.at t.polled ++ begins x.at t.begun ++ refusals x.at t.started)
three_follow held end x t fine =
    let es = results x.at t.polled in
    let one = results_follow x.at x.state t.polled t.each_polled.each fine in
    let two = begun_so held end (following x es) t.begun t.picked (fine_on x.state es one fine) in
    subst (Follow x.state) (sym (append_assoc es (begins x.at t.begun) (refusals x.at t.started)))
    (follow_both x.state es (begins x.at t.begun ++ refusals x.at t.started) one
    (follow_both (after_all x.state es) (begins x.at t.begun) (refusals x.at t.started) two.follow
    (refusals_follow x.at (after_all (after_all x.state es) (begins x.at t.begun)) t.begun t.started t.each_started two.run two.apart)))

-- The events of a turn apply, and some are pending only after a disk fault.
pub record TurnFollows (end : TurnEnd) (s : State) (events pending : List Event) : Type 0 where
  pub follow : Fine s → Follow s (events ++ pending)
  pub whole : (end ≡ turn_end.Disk → ⊥) → pending ≡ []

all_recorded : (end : TurnEnd) (s : State) (es events pending : List Event) → events ≡ es → pending ≡ [] → (Fine s → Follow s es)
    → TurnFollows end s events pending
all_recorded end s es events pending is none follow = record {
  follow = λ fine. subst (Follow s) (sym ((λ i. is i ++ none i) ∙ append-nil es)) (follow fine);
  whole = λ _. none;
}

some_pending : (s : State) (es fs events pending : List Event) → events ≡ es → pending ≡ fs → (Fine s → Follow s (es ++ fs))
    → TurnFollows turn_end.Disk s events pending
some_pending s es fs events pending is rest follow = record {
  follow = λ fine. subst (Follow s) (sym (λ i. is i ++ rest i)) (follow fine);
  whole = λ none. absurd (none refl);
}

whole_follows : (held : List (List ℕ)) (end : TurnEnd) (x : BatchStart) (did : Effects) (reported : List Notice) → Whole held end x did reported
    → TurnFollows end x.state did.events did.pending
whole_follows held end x did reported (t, is, reported_is) =
    all_recorded end x.state _ did.events did.pending (same_events is) (same_pending is) (three_follow held end x t)

turn_follows : (held : List (List ℕ)) (end : TurnEnd) (x : BatchStart) (did : Effects) (reported : List Notice) → IsTurn held end x did reported
    → TurnFollows end x.state did.events did.pending
turn_follows held turn_end.Closed x did reported bad = absurd bad
turn_follows held turn_end.BookFull x did reported (is, none) =
    all_recorded turn_end.BookFull x.state [] did.events did.pending (same_events is) (same_pending is) (λ fine. tt)
turn_follows held turn_end.Done x did reported does = whole_follows held turn_end.Done x did reported does
turn_follows held turn_end.RunsSpent x did reported does = whole_follows held turn_end.RunsSpent x did reported does
turn_follows held turn_end.Full x did reported does = whole_follows held turn_end.Full x did reported does
turn_follows held turn_end.Memory x did reported does = whole_follows held turn_end.Memory x did reported does
turn_follows held turn_end.Disk x did reported (inl (ps, polled, is, reported_is)) =
    some_pending x.state [] (results x.at ps) did.events did.pending (same_events is) (same_pending is)
    (λ fine. results_follow x.at x.state ps polled.each fine)
turn_follows held turn_end.Disk x did reported (inr (inl (ps, end, bs, polled, picked, is, reported_is))) =
    some_pending x.state (results x.at ps) (begins x.at bs) did.events did.pending (same_events is) (same_pending is)
    (two_follow held end x ps bs polled picked)
turn_follows held turn_end.Disk x did reported (inr (inr (end, t, is, reported_is))) =
    some_pending x.state (results x.at t.polled ++ begins x.at t.begun) (refusals x.at t.started) did.events did.pending (same_events is)
    (same_pending is) (three_follow held end x t)

-- those of a turn that begins nothing
finish_follows : (held : List (List ℕ)) (end : TurnEnd) (x : BatchStart) (did : Effects) (reported : List Notice) → IsFinish held end x did reported
    → TurnFollows end x.state did.events did.pending
finish_follows held turn_end.Done x did reported (ps, polled, is, reported_is) =
    all_recorded turn_end.Done x.state (results x.at ps) did.events did.pending (same_events is) (same_pending is)
    (λ fine. results_follow x.at x.state ps polled.each fine)
finish_follows held turn_end.BookFull x did reported (is, none) =
    all_recorded turn_end.BookFull x.state [] did.events did.pending (same_events is) (same_pending is) (λ fine. tt)
finish_follows held turn_end.Disk x did reported (ps, polled, is, reported_is) =
    some_pending x.state [] (results x.at ps) did.events did.pending (same_events is) (same_pending is)
    (λ fine. results_follow x.at x.state ps polled.each fine)
finish_follows held _ x did reported bad = absurd bad

-- The events of calls, from one machine to another: they apply, and they lead to its state where it is open.
pub record Went (m n : Machine) (did : Effects) : Type 0 where
  pub follow : m.is_open ≡ true → Fine m.state → Follow m.state (did.events ++ did.pending)
  pub onward : n.is_open ≡ true → (m.is_open ≡ true) × (n.state ≡ after_all m.state did.events) × (did.pending ≡ [])
  pub closed : m.is_open ≡ false → (did ≡ no_effects) × (n.is_open ≡ false)

went_on : (m n : Machine) (es : List Event) (did : Effects) → m.is_open ≡ true → n.state ≡ after_all m.state es
    → did ≡ batch_effects true es → (Fine m.state → Follow m.state es) → Went m n did
went_on m n es did opened state is follow = subst (Went m n) (sym is) (record {
  follow = λ o fine. subst (Follow m.state) (sym (append-nil es)) (follow fine);
  onward = λ o. (opened, state, refl);
  closed = λ shut. absurd (false≢true (sym shut ∙ opened));
})

went_wrong : (m n : Machine) (es fs : List Event) (did : Effects) → m.is_open ≡ true → n.is_open ≡ false
    → did ≡ record { entries = []; events = es; pending = fs } → (Fine m.state → Follow m.state (es ++ fs)) → Went m n did
went_wrong m n es fs did opened shut is follow = subst (Went m n) (sym is) (record {
  follow = λ o fine. follow fine;
  onward = λ o. absurd (false≢true (sym shut ∙ o));
  closed = λ bad. absurd (false≢true (sym bad ∙ opened));
})

goes_on : (m n : Machine) (es : List Event) (did : Effects) → m.is_open ≡ true → GoesOn es m n did → (Fine m.state → Follow m.state es) → Went m n did
goes_on m n es did opened crash follow = went_on m n es did opened (ap (λ (k : Machine). k.state) crash.0) crash.1 follow

takes_all : (l : Label) (m n : Machine) (now : ℕ) (cs : List Command) (rs : List Reply) (did : Effects) → m.is_open ≡ true → TakesAll l now cs rs m n did
    → Went m n did
takes_all l m n now cs rs did opened (meant, es, answered, inl (reported, crash)) =
    goes_on m n es did opened crash (λ fine. answered_follow m.state now cs meant es fine.low answered)
takes_all l m n now cs rs did opened (meant, es, answered, inr (some, reported, fails)) =
    went_wrong m n [] es did opened fails.1.0 fails.1.1 (λ fine. answered_follow m.state now cs meant es fine.low answered)

-- a turn of a kind whose events apply
turn_went : (kind : TurnKind) (each : ℕ) (end : TurnEnd) (at : ℕ) (l : Label) (m n : Machine) (did : Effects) → m.is_open ≡ true
    → MovesTurn kind each end at l m n did → TurnFollows end m.state did.events did.pending → Went m n did
turn_went kind each end at l m n did opened t follows = record {
  follow = λ o fine. follows.follow fine;
  onward = λ o. (
    opened,
    ap (λ (k : Machine). k.state) t.goes_on,
    follows.whole (λ disk. absurd (false≢true (sym (t.closes.1 disk) ∙ o))),
  );
  closed = λ bad. absurd (false≢true (sym bad ∙ opened));
}

tidied : (end : TidyEnd) (l : Label) (m n : Machine) (did : Effects) → m.is_open ≡ true → TidyEnds end l m n did → Went m n did
tidied tidy.Done l m n did opened crash = goes_on m n [] did opened crash (λ fine. tt)
tidied tidy.EpochSpent l m n did opened (spent, crash) = goes_on m n [] did opened crash (λ fine. tt)
tidied tidy.Disk l m n did opened (cause, fails) = went_wrong m n [] [] did opened fails.0 fails.1 (λ fine. tt)
tidied tidy.Closed l m n did opened bad = absurd bad

moves_open : (e : Exchange) (l : Label) (m n : Machine) (did : Effects) → m.is_open ≡ true → MovesOpen e l m n did → Went m n did
moves_open (Took (input.Request now (asked.Question q)) reply) l m n did opened h = goes_on m n [] did opened h.2 (λ fine. tt)
moves_open (Took (input.Request now (asked.Command c)) reply) l m n did opened (quiet, inl takes) =
    takes_all l m n now (c ∷ []) (reply ∷ []) did opened takes
moves_open (Took (input.Request now (asked.Command c)) reply) l m n did opened (quiet, inr full) = goes_on m n [] did opened full.4 (λ fine. tt)
moves_open (Took (input.Turn now) reply) l m n did opened (end, replies, t) =
    turn_went IsTurn 3 end (moment m.state now) l m n did opened t
    (turn_follows l.held end (batch_start m.state m.due l.tail (moment m.state now) m.refuses) did l.notices t.turns)
moves_open (Batch now cs rs) l m n did opened takes = takes_all l m n now cs rs did opened takes.1
moves_open (Finished now end) l m n did opened t =
    turn_went IsFinish 2 end (moment m.state now) l m n did opened t
    (finish_follows l.held end (batch_start m.state m.due l.tail (moment m.state now) m.refuses) did l.notices t.turns)
moves_open (Tidied end) l m n did opened (quiet, ends) = tidied end l m n did opened ends
moves_open Cleared l m n did opened (quiet, same, none) = went_on m n [] did opened (ap (λ (k : Machine). k.state) same) none (λ fine. tt)
moves_open Abandoned l m n did opened fails = went_wrong m n [] [] did opened fails.1.0 fails.1.1 (λ fine. tt)

pub moves_so : (o : Bool) (l : Label) (m n : Machine) (did : Effects) → m.is_open ≡ o → MovesWhile o l m n did → Went m n did
moves_so true l m n did opened h = moves_open l.exchange l m n did opened h.0
moves_so false l m n did shut h = subst (Went m n) (sym h.2.1) (record {
  follow = λ o fine. tt;
  onward = λ o. absurd (false≢true (sym h.2.0 ∙ o));
  closed = λ o. (refl, h.2.0);
})

-- one part after another
went_both : (m k n : Machine) (a b : Effects) → Went m k a → Went k n b → Went m n (followed_by a b)
went_both m k n a b one two = record {
  follow = λ o fine. by k.is_open refl (one.follow o fine) fine;
  onward = λ o.
      let later = two.onward o in
      let first = one.onward later.0 in (
        first.0,
        later.1 ∙ ap (λ (s : State). after_all s b.events) first.1 ∙ sym (after_all-append m.state a.events b.events),
        ap (λ (l : List Event). l ++ b.pending) first.2 ∙ later.2,
      );
  closed = λ o.
      let first = one.closed o in
      let later = two.closed first.1 in
      ((λ i. followed_by (first.0 i) (later.0 i)), later.1);
}
  where
    by : (o : Bool) → k.is_open ≡ o → Follow m.state (a.events ++ a.pending) → Fine m.state
        → Follow m.state ((a.events ++ b.events) ++ (a.pending ++ b.pending))
    by true opened so_far fine =
        let first = one.onward opened in
        let here : Follow m.state a.events = follow_first m.state a.events a.pending so_far in
        let after_it : Follow k.state (b.events ++ b.pending) =
        two.follow opened (subst Fine (sym first.1) (fine_on m.state a.events here fine)) in
        subst (λ (l : List Event). Follow m.state ((a.events ++ b.events) ++ (l ++ b.pending))) (sym first.2)
        (subst (Follow m.state) (sym (append_assoc a.events b.events b.pending))
        (follow_both m.state a.events (b.events ++ b.pending) here (subst (λ (s : State). Follow s (b.events ++ b.pending)) first.1 after_it)))
    by false shut so_far fine =
        let none = (two.closed shut).0 in
        subst (λ (l : Effects). Follow m.state ((a.events ++ l.events) ++ (a.pending ++ l.pending))) (sym none)
        (subst (λ (l : List Event). Follow m.state (l ++ (a.pending ++ []))) (sym (append-nil a.events))
        (subst (λ (l : List Event). Follow m.state (a.events ++ l)) (sym (append-nil a.pending)) so_far))

pub moves_all_so : (ls : List Label) (m n : Machine) (did : Effects) → MovesAll ls m n did → Went m n did
moves_all_so [] m n did (same, none) = subst (Went m n) (sym none) (record {
  follow = λ o fine. tt;
  onward = λ o. (ap (λ (k : Machine). k.is_open) (sym same) ∙ o, ap (λ (k : Machine). k.state) same, refl);
  closed = λ o. (refl, ap (λ (k : Machine). k.is_open) same ∙ o);
})
moves_all_so (l ∷ ls) m n did (mid, first, later, moves, rest, is) =
    subst (Went m n) (sym is)
    (went_both m mid n first later (moves_so m.is_open l m mid first refl moves) (moves_all_so ls mid n later rest))

-- the boot that is needed applies
boots_follow : (s : State) (now : ℕ) → Follow s (boots s now)
boots_follow s now = by (any_busy s) refl
  where
    by : (b : Bool) → any_busy s ≡ b → Follow s (option_to_list (if b then Some (boot_at (moment s now)) else None))
    by true busy = (busy, tt)
    by false quiet = tt

-- so do the events that remain of an incarnation, and of a behaviour
remain_follow : (x : Seen) (s : State) (zs : List Event) → Fine s → RemainOf x s zs → Follow s zs
remain_follow (Opening now end) s zs fine (inl none) = subst (Follow s) (sym none) tt
remain_follow (Opening now end) s zs fine (inr (may, is)) = subst (Follow s) (sym is) (boots_follow s now)
remain_follow (Serving x) s zs fine (p, r, is) =
    let boot = boots_follow s x.now in
    let open_state : after_all s (boots s x.now) ≡ booted s x.now = boots_is s x.now in
    let fine2 : Fine (booted s x.now) = subst Fine open_state (fine_on s (boots s x.now) boot fine) in
    let went = went_both (opened_on s x) r.returned r.last r.done r.under_way (moves_all_so x.calls (opened_on s x) r.returned r.done r.moves)
    (moves_all_so x.begun r.returned r.last r.under_way r.goes_on) in
    let all = went.follow refl fine2 in
    let first : Follow (booted s x.now) p =
    follow_first (booted s x.now) p r.holds.1 (subst (Follow (booted s x.now)) (sym r.holds.3) all) in
    subst (Follow s) (sym is) (follow_both s (boots s x.now) p boot (subst (λ (t : State). Follow t p) (sym open_state) first))

pub runs_follow : (start : State) (xs : List Seen) (zs : List Event) → Fine start → Behaves start xs zs → Follow start zs
runs_follow start [] zs fine none = subst (Follow start) (sym none) tt
runs_follow start (x ∷ older) zs fine (ys, more, before, remains, is) =
    let first = runs_follow start older ys fine before in
    subst (Follow start) (sym is)
    (follow_both start ys more first (remain_follow x (after_all start ys) more (fine_on start ys first fine) remains))

pub runs_apply : (start : State) (xs : List Seen) (zs : List Event) → IsLawfulState start → Behaves start xs zs → Follow start zs
runs_apply start xs zs lawful runs = runs_follow start xs zs (record { apart = lawful.ids; low = lawful.next_call.1 }) runs

-- and they are in order
pub in_order : (start : State) (xs : List Seen) (zs : List Event) → IsLawfulState start → Behaves start xs zs → IsInOrder start zs
in_order start xs zs lawful runs =
    let follow = runs_apply start xs zs lawful runs in record {
      runs = runs_ascend start zs follow;
      ends = ends_between start zs follow;
      reported = interrupted_once start zs lawful follow;
      calls = λ id. begin_in_order start zs id follow;
    }
