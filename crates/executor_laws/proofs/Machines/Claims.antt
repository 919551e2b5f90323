-- The events that a behaviour of the machine left: each claim has one of its own, and each start has its begin.
use Rattle.std.proofs.Common.{◌≡◌, inl, inr, ℕ, Bool, true, false, List, [], ◌∷◌, ◌++◌, map, flat_map, Result, Ok, Err, refl, sym, ap, subst, ◌∙◌}
use Rattle.std.specs.Prelude.{if◌then◌else◌}
use Rattle.std.specs.List.{list_any}
use Rattle.std.proofs.lemmas.Bool.{or_left, or_right}
use Rattle.std.proofs.lemmas.List.{append-nil, map-append}
use Rattle.std.proofs.lemmas.List.Folds.{list_any-append}
use Rattle.ocf_model.specs.Answer.{event_of, moment}
use Rattle.ocf_types.specs.Kinds.{Command, Event}
use Rattle.ocf_model.specs.Answer.{Reply}
use Rattle.ocf_model.specs.LawfulState.{IsLawfulState}
use Rattle.ocf_model.specs.State.{State, after, after_all}
use Rattle.ocf_types.specs.declared.command.RequestOf.TheVariants as asked
use Rattle.ocf_types.specs.declared.outcome.RunEnd.{RunEnd}
use Rattle.ocf_model.specs.declared.refusal.Refusal.{Refusal}
use Rattle.ocf_types.specs.declared.notice.Notice.{Notice}
use Rattle.ocf_model.specs.declared.reply.ReplyOf.TheVariants as reply
use Rattle.ocf_model.specs.declared.reply.TurnEnd.{TurnEnd}
use Rattle.ocf_model.specs.declared.reply.TurnEnd.TheVariants as turn_end
use Rattle.exec_ledger.specs.Actives.{Active}
use Rattle.exec_ledger.specs.Boots.{booted}
use Rattle.exec_ledger.specs.Pieces.{Effects, HasBegin, is_begin}
use Rattle.exec_ledger.specs.Replies.{acknowledged}
use Rattle.exec_ledger.specs.BatchStarts.{BatchStart, batch_start}
use Rattle.exec_ledger.specs.Together.{Adds, Answered, disk_each, failed, is_no_refusal}
use Rattle.exec_turn.specs.Actives.{notice_of, result_of}
use Rattle.exec_turn.specs.Picks.{begins}
use Rattle.exec_turn.specs.Polls.{Polled, ends_of, result_notices, results}
use Rattle.exec_turn.specs.Starts.{refusal_notices, refusals, refused_end}
use Rattle.exec_ledger.specs.Lemmas.{same_events}
use Rattle.exec_turn.specs.Turn.{IsFinish, IsTurn, Whole}
use Rattle.executor.specs.Exchanges.{Exchange, Finished, Batch, Took}
use Rattle.executor_laws.specs.Incarnations.{boots}
use Rattle.executor_laws.specs.Machine.{AnswersClosed, Label, Machine, MovesAll, MovesOpen, MovesWhile, TakesAll, TakesOne}
use Rattle.executor_laws.specs.Promise.{Acknowledged, AllBegun, AllRecorded, Claim, Ended, IsKept, acknowledged_in, acknowledgements, claimed, claims_of}
use Rattle.executor_laws.specs.Behaves.{HasBegins, Opening, Remains, Behaves, Seen, SeenUptime, Serving, opened_on}
use Rattle.executor.specs.declared.session.InputOf.TheVariants as input
use Rattle.executor_laws.proofs.Incarnations.Whole.{boots_is}
use Rattle.executor_laws.proofs.Machines.Reports.{reports_reported}
use Rattle.executor_laws.proofs.Machines.Runs.{in_order, moves_so}

-- claims of some events, and then of others
both_recorded : (s : State) (cs : List Claim) (es : List Event) (ds : List Claim) (fs : List Event) → AllRecorded s cs es
    → AllRecorded (after_all s es) ds fs → AllRecorded s (cs ++ ds) (es ++ fs)
both_recorded s [] [] ds fs h k = k
both_recorded s [] (e ∷ es) [] fs h k = tt
both_recorded s [] (e ∷ es) (d ∷ ds) fs h k = inr (both_recorded (after s e) [] es (d ∷ ds) fs tt k)
both_recorded s (c ∷ cs) [] ds fs h k = absurd h
both_recorded s (c ∷ cs) (e ∷ es) ds fs (inl h) k = inl (h.0, both_recorded (after s e) cs es ds fs h.1 k)
both_recorded s (c ∷ cs) (e ∷ es) ds fs (inr h) k = inr (both_recorded (after s e) (c ∷ cs) es ds fs h k)

recorded_more : (s : State) (cs : List Claim) (es fs : List Event) → AllRecorded s cs es → AllRecorded s cs (es ++ fs)
recorded_more s cs es fs h =
    subst (λ (ds : List Claim). AllRecorded s ds (es ++ fs)) (append-nil cs) (both_recorded s cs es [] fs h tt)

recorded_later : (s : State) (cs : List Claim) (es fs : List Event) → AllRecorded (after_all s es) cs fs → AllRecorded s cs (es ++ fs)
recorded_later s cs es fs h = both_recorded s [] es cs fs tt h

-- commands: each that is acknowledged is its event
kept_recorded : (s : State) (now : ℕ) (c : Command) (r : Reply) (e : Event) (b : Bool) → event_of s now c ≡ Ok e → r ≡ acknowledged e.change
    → AllRecorded s (if b then Acknowledged now c r ∷ [] else []) (e ∷ [])
kept_recorded s now c r e true is reported = inl ((is, reported), tt)
kept_recorded s now c r e false is reported = tt

one_recorded : (s : State) (now : ℕ) (c : Command) (r : Reply) (es : List Event) (v : Result Event Refusal) → event_of s now c ≡ v → Adds v r es
    → AllRecorded s (if is_no_refusal r then Acknowledged now c r ∷ [] else []) es
one_recorded s now c r es (Err why) is (refused, none) =
    subst (λ (t : Reply). AllRecorded s (if is_no_refusal t then Acknowledged now c t ∷ [] else []) es) (sym refused) tt
one_recorded s now c r es (Ok e) is (inl (reported, one)) =
    subst (λ (fs : List Event). AllRecorded s (if is_no_refusal r then Acknowledged now c r ∷ [] else []) fs) (sym one)
    (kept_recorded s now c r e (is_no_refusal r) is reported)
one_recorded s now c r es (Ok e) is (inr (refused, registers, none)) =
    subst (λ (t : Reply). AllRecorded s (if is_no_refusal t then Acknowledged now c t ∷ [] else []) es) (sym refused) tt

answered_recorded : (s : State) (now : ℕ) (cs : List Command) (rs : List Reply) (es : List Event) → Answered now s cs rs es
    → AllRecorded s (acknowledgements now cs rs) es
answered_recorded s now [] [] es is = tt
answered_recorded s now [] (r ∷ rs) es bad = absurd bad
answered_recorded s now (c ∷ cs) [] es bad = absurd bad
answered_recorded s now (c ∷ cs) (r ∷ rs) es (first, later, adds, rest, is) =
    subst (AllRecorded s (acknowledgements now (c ∷ cs) (r ∷ rs))) (sym is)
    (both_recorded s (if is_no_refusal r then Acknowledged now c r ∷ [] else []) first (acknowledgements now cs rs) later
    (one_recorded s now c r first (event_of s now c) refl adds) (answered_recorded (after_all s first) now cs rs later rest))

-- refusals acknowledge nothing
none_kept : (now : ℕ) (cs : List Command) (rs : List Reply) → acknowledgements now cs (disk_each rs) ≡ []
none_kept now [] rs = refl
none_kept now (c ∷ cs) [] = refl
none_kept now (c ∷ cs) (r ∷ rs) = none_kept now cs rs

none_failed : (now : ℕ) (cs : List Command) (rs : List Reply) → acknowledgements now cs (failed rs) ≡ []
none_failed now [] rs = refl
none_failed now (c ∷ cs) [] = refl
none_failed now (c ∷ cs) (reply.Refused why ∷ rs) = none_failed now cs rs
none_failed now (c ∷ cs) (r ∷ rs) = none_kept now cs rs

none_claimed : (s : State) (cs : List Claim) (es : List Event) → cs ≡ [] → AllRecorded s cs es
none_claimed s cs es none = subst (λ (ds : List Claim). AllRecorded s ds es) (sym none) tt

takes_recorded : (l : Label) (now : ℕ) (cs : List Command) (rs : List Reply) (m n : Machine) (did : Effects) → TakesAll l now cs rs m n did
    → AllRecorded m.state (acknowledgements now cs rs) did.events
takes_recorded l now cs rs m n did (meant, es, answered, inl (reported, goes)) =
    subst (λ (k : Effects). AllRecorded m.state (acknowledgements now cs rs) k.events) (sym goes.1)
    (subst (λ (ts : List Reply). AllRecorded m.state (acknowledgements now cs ts) es) (sym reported) (answered_recorded m.state now cs meant es answered))
takes_recorded l now cs rs m n did (meant, es, answered, inr (some, reported, fails)) =
    none_claimed m.state (acknowledgements now cs rs) did.events (ap (acknowledgements now cs) reported ∙ none_failed now cs meant)

one_taken : (l : Label) (now : ℕ) (c : Command) (r : Reply) (m n : Machine) (did : Effects) → TakesOne l now c r m n did
    → AllRecorded m.state (acknowledgements now (c ∷ []) (r ∷ [])) did.events
one_taken l now c r m n did (inl takes) = takes_recorded l now (c ∷ []) (r ∷ []) m n did takes
one_taken l now c r m n did (inr (e, is, full, may, goes)) =
    none_claimed m.state (acknowledgements now (c ∷ []) (r ∷ [])) did.events (ap (λ (t : Reply). acknowledgements now (c ∷ []) (t ∷ [])) full)

-- notices: each has its result
ends_recorded : (s : State) (at : ℕ) (a : Active) (ends : List RunEnd) → AllRecorded s (map Ended (map (notice_of at a) ends)) (map (result_of at a) ends)
ends_recorded s at a [] = tt
ends_recorded s at a (end ∷ ends) =
    inl (record { end = end; is = refl; ended = refl }, ends_recorded (after s (result_of at a end)) at a ends)

each_recorded : {X : Type 0} (s : State) (at : ℕ) (who : X → Active) (ends : X → List RunEnd) (xs : List X)
    → AllRecorded s (map Ended (flat_map (λ x. map (notice_of at (who x)) (ends x)) xs)) (flat_map (λ x. map (result_of at (who x)) (ends x)) xs)
each_recorded s at who ends [] = tt
each_recorded s at who ends (x ∷ xs) =
    subst (λ (cs : List Claim). AllRecorded s cs (flat_map (λ x. map (result_of at (who x)) (ends x)) (x ∷ xs)))
    (sym (map-append Ended (map (notice_of at (who x)) (ends x)) (flat_map (λ x. map (notice_of at (who x)) (ends x)) xs)))
    (both_recorded s _ (map (result_of at (who x)) (ends x)) _ _ (ends_recorded s at (who x) (ends x))
    (each_recorded (after_all s (map (result_of at (who x)) (ends x))) at who ends xs))

results_recorded : (s : State) (at : ℕ) (ps : List Polled) → AllRecorded s (map Ended (result_notices at ps)) (results at ps)
results_recorded s at ps = each_recorded s at (λ p. p.who) (λ p. ends_of at p) ps

begun_recorded : (s : State) (at : ℕ) (ps : List Polled) (bs : List Active)
    → AllRecorded s (map Ended (result_notices at ps)) (results at ps ++ begins at bs)
begun_recorded s at ps bs = recorded_more s (map Ended (result_notices at ps)) (results at ps) (begins at bs) (results_recorded s at ps)

-- the claims of a call, by its kind
moved : (s : State) (ns ms : List Notice) (es fs : List Event) → ns ≡ ms → es ≡ fs → AllRecorded s (map Ended ms) fs → AllRecorded s (map Ended ns) es
moved s ns ms es fs same same2 h =
    subst (λ (l : List Notice). AllRecorded s (map Ended l) es) (sym same) (subst (AllRecorded s (map Ended ms)) (sym same2) h)

whole_recorded : (held : List (List ℕ)) (end : TurnEnd) (x : BatchStart) (did : Effects) (reported : List Notice) → Whole held end x did reported
    → AllRecorded x.state (map Ended reported) did.events
whole_recorded held end x did reported (t, is, ns) =
    let s = x.state in
    let early : List Event = results x.at t.polled ++ begins x.at t.begun in
    moved s reported (result_notices x.at t.polled ++ refusal_notices x.at t.started) did.events (early ++ refusals x.at t.started) ns (same_events is)
    (subst (λ (cs : List Claim). AllRecorded s cs (early ++ refusals x.at t.started))
    (sym (map-append Ended (result_notices x.at t.polled) (refusal_notices x.at t.started)))
    (both_recorded s (map Ended (result_notices x.at t.polled)) early (map Ended (refusal_notices x.at t.started)) (refusals x.at t.started)
    (begun_recorded s x.at t.polled t.begun)
    (each_recorded (after_all s early) x.at (λ a. a.what) (λ a. refused_end a.answer) t.started)))

turn_recorded : (held : List (List ℕ)) (end : TurnEnd) (x : BatchStart) (did : Effects) (reported : List Notice) → IsTurn held end x did reported
    → AllRecorded x.state (map Ended reported) did.events
turn_recorded held turn_end.Closed x did reported none = absurd none
turn_recorded held turn_end.BookFull x did reported (is, ns) = moved x.state reported [] did.events [] ns (same_events is) tt
turn_recorded held turn_end.Done x did reported whole = whole_recorded held turn_end.Done x did reported whole
turn_recorded held turn_end.RunsSpent x did reported whole = whole_recorded held turn_end.RunsSpent x did reported whole
turn_recorded held turn_end.Full x did reported whole = whole_recorded held turn_end.Full x did reported whole
turn_recorded held turn_end.Memory x did reported whole = whole_recorded held turn_end.Memory x did reported whole
turn_recorded held turn_end.Disk x did reported (inl (ps, _, is, ns)) = moved x.state reported [] did.events [] ns (same_events is) tt
turn_recorded held turn_end.Disk x did reported (inr (inl (ps, end, bs, _, _, is, ns))) =
    moved x.state reported (result_notices x.at ps) did.events (results x.at ps) ns (same_events is) (results_recorded x.state x.at ps)
turn_recorded held turn_end.Disk x did reported (inr (inr (end, t, is, ns))) =
    moved x.state reported (result_notices x.at t.polled) did.events (results x.at t.polled ++ begins x.at t.begun) ns (same_events is)
    (begun_recorded x.state x.at t.polled t.begun)

finish_recorded : (held : List (List ℕ)) (end : TurnEnd) (x : BatchStart) (did : Effects) (reported : List Notice) → IsFinish held end x did reported
    → AllRecorded x.state (map Ended reported) did.events
finish_recorded held turn_end.Done x did reported (ps, _, is, ns) =
    moved x.state reported (result_notices x.at ps) did.events (results x.at ps) ns (same_events is) (results_recorded x.state x.at ps)
finish_recorded held turn_end.BookFull x did reported (is, ns) = moved x.state reported [] did.events [] ns (same_events is) tt
finish_recorded held turn_end.Disk x did reported (ps, _, is, ns) = moved x.state reported [] did.events [] ns (same_events is) tt
finish_recorded held _ x did reported none = absurd none

-- a step without a notice
unnoticed : (s : State) (cs : List Claim) (ns : List Notice) (es : List Event) → ns ≡ [] → AllRecorded s cs es
    → AllRecorded s (cs ++ map Ended ns) es
unnoticed s cs ns es none h =
    subst (λ (l : List Notice). AllRecorded s (cs ++ map Ended l) es) (sym none)
    (subst (λ (ds : List Claim). AllRecorded s ds es) (sym (append-nil cs)) h)

-- the claims of a step
open_recorded : (e : Exchange) (l : Label) (m n : Machine) (did : Effects) → MovesOpen e l m n did
    → AllRecorded m.state (acknowledged_in e ++ map Ended l.notices) did.events
open_recorded (Took (input.Request now (asked.Question q)) r) l m n did h = unnoticed m.state [] l.notices did.events h.0.1 tt
open_recorded (Took (input.Request now (asked.Command c)) r) l m n did h =
    unnoticed m.state (acknowledgements now (c ∷ []) (r ∷ [])) l.notices did.events h.0.1 (one_taken l now c r m n did h.1)
open_recorded (Took (input.Turn now) r) l m n did (end, replies, t) =
    turn_recorded l.held end (batch_start m.state m.due l.tail (moment m.state now) m.refuses) did l.notices t.turns
open_recorded (Batch now cs rs) l m n did h =
    unnoticed m.state (acknowledgements now cs rs) l.notices did.events h.0.1 (takes_recorded l now cs rs m n did h.1)
open_recorded (Finished now end) l m n did t =
    finish_recorded l.held end (batch_start m.state m.due l.tail (moment m.state now) m.refuses) did l.notices t.turns
open_recorded _ l m n did h = unnoticed m.state [] l.notices did.events h.0.1 tt

closed_claims : (e : Exchange) (ns : List Notice) → AnswersClosed e → ns ≡ [] → acknowledged_in e ++ map Ended ns ≡ []
closed_claims (Took (input.Request now (asked.Question q)) r) ns h none = ap (map Ended) none
closed_claims (Took (input.Request now (asked.Command c)) r) ns h none =
    ap (λ (t : Reply). acknowledgements now (c ∷ []) (t ∷ []) ++ map Ended ns) h ∙ ap (map Ended) none
closed_claims (Batch now cs rs) ns h none = absurd h
closed_claims _ ns h none = ap (map Ended) none

step_recorded : (o : Bool) (l : Label) (m n : Machine) (did : Effects) → MovesWhile o l m n did → AllRecorded m.state (claims_of l) did.events
step_recorded true l m n did h = open_recorded l.exchange l m n did h.0
step_recorded false l m n did h =
    none_claimed m.state (claims_of l) did.events (closed_claims l.exchange l.notices h.1 h.0.1)

-- a closed machine's steps claim nothing
all_closed : (ls : List Label) (m n : Machine) (did : Effects) → m.is_open ≡ false → MovesAll ls m n did → flat_map claims_of ls ≡ []
all_closed [] m n did shut h = refl
all_closed (l ∷ ls) m n did shut (mid, first, later, moves, rest, is) =
    let here = subst (λ (b : Bool). MovesWhile b l m mid first) shut moves in
    ap (λ (cs : List Claim). cs ++ flat_map claims_of ls) (closed_claims l.exchange l.notices here.1 here.0.1)
    ∙ all_closed ls mid n later here.2.0 rest

-- the claims of steps after one that left the machine open or closed
later_claims : (o : Bool) (l : Label) (ls : List Label) (m mid n : Machine) (first later : Effects) → mid.is_open ≡ o
    → MovesWhile m.is_open l m mid first → MovesAll ls mid n later → AllRecorded mid.state (flat_map claims_of ls) later.events
    → AllRecorded (after_all m.state first.events) (flat_map claims_of ls) later.events
later_claims true l ls m mid n first later opened moves rest recorded =
    subst (λ (s : State). AllRecorded s (flat_map claims_of ls) later.events) ((moves_so m.is_open l m mid first refl moves).onward opened).1
    recorded
later_claims false l ls m mid n first later shut moves rest recorded =
    none_claimed (after_all m.state first.events) (flat_map claims_of ls) later.events (all_closed ls mid n later shut rest)

-- the claims of steps, one after the other
pub all_claims : (ls : List Label) (m n : Machine) (did : Effects) → MovesAll ls m n did
    → AllRecorded m.state (flat_map claims_of ls) did.events
all_claims [] m n did h = tt
all_claims (l ∷ ls) m n did (mid, first, later, moves, rest, is) =
    subst (λ (k : Effects). AllRecorded m.state (claims_of l ++ flat_map claims_of ls) k.events) (sym is)
    (both_recorded m.state (claims_of l) first.events (flat_map claims_of ls) later.events (step_recorded m.is_open l m mid first moves)
    (later_claims mid.is_open l ls m mid n first later refl moves rest (all_claims ls mid n later rest)))

-- those of an incarnation, in the events that remain of it
uptime_recorded : (x : SeenUptime) (s : State) (p : List Event) → Remains x s p
    → AllRecorded s (flat_map claims_of x.calls) (boots s x.now ++ p)
uptime_recorded x s p r =
    let cs = flat_map claims_of x.calls in
    let first = all_claims x.calls (opened_on s x) r.returned r.done r.moves in
    let here : AllRecorded (booted s x.now) cs p =
    subst (AllRecorded (booted s x.now) cs) (sym r.holds.2) (recorded_more (booted s x.now) cs r.done.events r.holds.0 first) in
    recorded_later s cs (boots s x.now) p (subst (λ (t : State). AllRecorded t cs p) (sym (boots_is s x.now)) here)

pub runs_recorded : (start : State) (xs : List Seen) (zs : List Event) → Behaves start xs zs → AllRecorded start (claimed xs) zs
runs_recorded start [] zs none = tt
runs_recorded start (Opening now end ∷ older) zs (ys, more, before, remains, is) =
    subst (AllRecorded start (claimed older)) (sym is) (recorded_more start (claimed older) ys more (runs_recorded start older ys before))
runs_recorded start (Serving x ∷ older) zs (ys, more, before, (p, r, more_is), is) =
    subst (AllRecorded start (claimed older ++ flat_map claims_of x.calls)) (sym is)
    (both_recorded start (claimed older) ys (flat_map claims_of x.calls) more (runs_recorded start older ys before)
    (subst (AllRecorded (after_all start ys) (flat_map claims_of x.calls)) (sym more_is) (uptime_recorded x (after_all start ys) p r)))

-- a begin among events is among more
begin_before : (run : ℕ) (es fs : List Event) → HasBegin run es → HasBegin run (es ++ fs)
begin_before run es fs h =
    let test : Event → Bool = λ e. is_begin run e.change in list_any-append test es fs ∙ or_left (list_any test es) (list_any test fs) h

begin_after : (run : ℕ) (es fs : List Event) → HasBegin run fs → HasBegin run (es ++ fs)
begin_after run es fs h =
    let test : Event → Bool = λ e. is_begin run e.change in list_any-append test es fs ∙ or_right (list_any test es) (list_any test fs) h

begun_before : (xs : List Seen) (es fs : List Event) → AllBegun xs es → AllBegun xs (es ++ fs)
begun_before [] es fs h = tt
begun_before (Opening now end ∷ older) es fs h = begun_before older es fs h
begun_before (Serving x ∷ older) es fs h =
    (begun_before older es fs h.0, λ run clock asked le. begin_before run es fs (h.1 run clock asked le))

pub runs_begun : (start : State) (xs : List Seen) (zs : List Event) → Behaves start xs zs → AllBegun xs zs
runs_begun start [] zs none = tt
runs_begun start (Opening now end ∷ older) zs (ys, more, before, remains, is) =
    subst (AllBegun older) (sym is) (begun_before older ys more (runs_begun start older ys before))
runs_begun start (Serving x ∷ older) zs (ys, more, before, (p, r, more_is), is) =
    subst (λ (es : List Event). AllBegun older es × HasBegins x es) (sym is) (
      begun_before older ys more (runs_begun start older ys before),
      λ run clock asked le. begin_after run ys more
          (subst (HasBegin run) (sym more_is) (begin_after run (boots (after_all start ys) x.now) p (r.begins run clock asked le))),
    )

-- the promise
pub runs_kept : (start : State) (xs : List Seen) (zs : List Event) → IsLawfulState start → Behaves start xs zs → IsKept start xs zs
runs_kept start xs zs lawful runs = record {
  recorded = runs_recorded start xs zs runs;
  begun = runs_begun start xs zs runs;
  opening_report = reports_reported start xs zs runs;
  order = in_order start xs zs lawful runs;
}
