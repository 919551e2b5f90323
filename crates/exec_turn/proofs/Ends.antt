-- The ends of a turn.
use Rattle.std.proofs.Common.{◌≡◌, inl, inr, ℕ, Bool, List, [], ◌++◌, Result, Ok, Err, IsErr, map, refl, sym, ◌∙◌, ap, subst, append_assoc, append-nil, arith, length, length-append, ◌-◌}
use Rattle.ocf_model.specs.Due.{Due}
use Rattle.ocf_types.specs.Kinds.{Event}
use Rattle.ocf_model.specs.StateLemmas.{after_all-append}
use Rattle.ocf_model.specs.State.{State, after_all}
use Rattle.ocf_types.specs.declared.notice.Notice.{Notice}
use Rattle.ocf_model.specs.declared.reply.TurnEnd.{TurnEnd}
use Rattle.ocf_model.specs.declared.reply.TurnEnd.TheVariants as turn_end
use Rattle.store_model.specs.StoreView.{StoreView}
use Rattle.exec_ledger.specs.declared.fault.StoreFault.{StoreFault}
use Rattle.child_model.specs.Children.{ChildrenView}
use Rattle.child_model.specs.declared.answer.Entry.{Entry}
use Rattle.exec_ledger.specs.Actives.{Active}
use Rattle.exec_ledger.specs.Lemmas.{due_after_all-append, joined}
use Rattle.exec_turn.specs.Lemmas.{then_started}
use Rattle.exec_turn.specs.Picks.{begins}
use Rattle.exec_ledger.specs.Pieces.{Effects, CrashCondition, no_effects}
use Rattle.exec_turn.specs.Polls.{polls, results}
use Rattle.exec_turn.specs.Starts.{Started, refusal_notices, refusals, starts}
use Rattle.exec_turn.specs.Turn.{IsFinish, IsTurn, PickedAt, TurnAnswers, TurnKind, Whole}
use Rattle.exec_ledger.specs.BatchStarts.{BatchStart, following, due_after_all, batch_start}
use Rattle.exec_turn.specs.Turns.{BeginsBatch, Finishes, PollsBatch, StartsBatch, Turns, TurnsAs, end_of}

-- a turn that did nothing
pub book_full : {S : Type 0} (kind : TurnKind) (view : S → StoreView) (k : S) (x : BatchStart) (from : ChildrenView)
    → kind from.held turn_end.BookFull x no_effects [] → CrashCondition view k k x.state x.state no_effects
    → TurnsAs kind view k k x x.state x.due from from [] turn_end.BookFull
book_full kind view k x from does leaves = record {
  effects = no_effects;
  book = sym (append-nil from.book);
  log = sym (append-nil from.log);
  room = omega arith;
  site = refl;
  does = does;
  crash = leaves;
  due_is = refl;
  whole = λ _. refl;
  cause = λ bad. let none : ⊥ = cc in absurd none;
}

-- the entries of two steps
both_entries : (was first second : List Entry) {mid now : List Entry} → mid ≡ was ++ first → now ≡ mid ++ second → now ≡ was ++ (first ++ second)
both_entries was first second one two = two ∙ ap (λ (l : List Entry). l ++ second) one ∙ append_assoc was first second

-- the room after both
both_room : (was : ℕ) (first second : List Entry) {mid now : ℕ} → mid ≡ was - length first → now ≡ mid - length second
    → now ≡ was - length (first ++ second)
both_room was first second one two = omega (arith, one, two, length-append first second)

module _ {S : Type 0} {view : S → StoreView} {at : ℕ} {k0 k1 : S} {s0 s1 : State} {d0 d1 : Due} {p0 p1 : ℕ} {a0 a1 : Bool} {from c1 : ChildrenView}
    {n1 : List Notice} where
  -- the batch of results failed
  results_failed : (kind : TurnKind) {f : StoreFault} (p : PollsBatch view k0 k1 (batch_start s0 d0 p0 at a0) (batch_start s1 d1 p1 at a1) from c1 n1 (Err f))
      → kind c1.held turn_end.Disk (batch_start s0 d0 p0 at a0) (record { entries = polls at p.answers; events = []; pending = results at p.answers }) n1
      → TurnsAs kind view k0 k1 (batch_start s0 d0 p0 at a0) s1 d1 from c1 n1 turn_end.Disk
  results_failed kind p does = record {
    effects = record { entries = polls at p.answers; events = []; pending = results at p.answers };
    book = p.book;
    log = p.log;
    room = p.room;
    site = p.site;
    does = does;
    crash = p.crash;
    due_is = p.moves.1;
    whole = λ not. absurd (not refl);
    cause = λ _. p.cause;
  }

  pub no_results : {f : StoreFault} → PollsBatch view k0 k1 (batch_start s0 d0 p0 at a0) (batch_start s1 d1 p1 at a1) from c1 n1 (Err f)
      → Turns view k0 k1 (batch_start s0 d0 p0 at a0) s1 d1 from c1 n1 turn_end.Disk
  no_results p = results_failed IsTurn p (inl (p.answers, p.each, refl, p.reported_is))

  pub finish_failed : {f : StoreFault} → PollsBatch view k0 k1 (batch_start s0 d0 p0 at a0) (batch_start s1 d1 p1 at a1) from c1 n1 (Err f)
      → Finishes view k0 k1 (batch_start s0 d0 p0 at a0) s1 d1 from c1 n1 turn_end.Disk
  finish_failed p = results_failed IsFinish p (p.answers, p.each, refl, p.reported_is)

  -- the batch of results was recorded, and nothing begins
  pub finish_done : {u : Unit} → PollsBatch view k0 k1 (batch_start s0 d0 p0 at a0) (batch_start s1 d1 p1 at a1) from c1 n1 (Ok u)
      → Finishes view k0 k1 (batch_start s0 d0 p0 at a0) s1 d1 from c1 n1 turn_end.Done
  finish_done p = record {
    effects = record { entries = polls at p.answers; events = results at p.answers; pending = [] };
    book = p.book;
    log = p.log;
    room = p.room;
    site = p.site;
    does = (p.answers, p.each, refl, p.reported_is);
    crash = p.crash;
    due_is = ap (λ (x : BatchStart). x.due) p.moves;
    whole = λ _. refl;
    cause = λ bad. let none : ⊥ = cc in absurd none;
  }

  module _ {u : Unit} (p : PollsBatch view k0 k1 (batch_start s0 d0 p0 at a0) (batch_start s1 d1 p1 at a1) from c1 n1 (Ok u)) where
    due1 : d1 ≡ due_after_all s0 d0 (results at p.answers)
    due1 = ap (λ (x : BatchStart). x.due) p.moves

    picks : (begun : List Active) (end : TurnEnd) → PickedAt c1.held end (batch_start s1 d1 p1 at a1) begun
        → PickedAt c1.held end (following (batch_start s0 d0 p0 at a0) (results at p.answers)) begun
    picks begun end picked = subst (λ (x : BatchStart). PickedAt c1.held end x begun) p.moves picked

    -- the batch of begins failed
    pub no_begins : {k2 : S} {s2 : State} {d2 : Due} {p2 : ℕ} {a2 : Bool} {begun : List Active} {f : StoreFault}
        → BeginsBatch view c1.held k1 k2 (batch_start s1 d1 p1 at a1) (batch_start s2 d2 p2 at a2) begun (Err f)
        → Turns view k0 k2 (batch_start s0 d0 p0 at a0) s2 d2 from c1 n1 turn_end.Disk
    no_begins {k2 = k2} {s2 = s2} {begun = begun} b =
        let batch = b.recorded in
        let both = joined view k0 k1 k2 s0 s1 s2 (record { entries = polls at p.answers; events = results at p.answers; pending = [] })
        (record { entries = []; events = []; pending = begins at begun }) refl p.crash batch.crash in
        record {
          effects = record { entries = polls at p.answers; events = results at p.answers; pending = begins at begun };
          book = p.book;
          log = p.log;
          room = p.room;
          site = p.site;
          does = inr (inl (p.answers, b.end, begun, p.each, picks begun b.end b.picked, refl, p.reported_is));
          crash =
              subst (λ (did : Effects). CrashCondition view k0 k2 s0 s2 did) (λ i. record {
                entries = append-nil (polls at p.answers) i;
                events = append-nil (results at p.answers) i;
                pending = begins at begun;
              }) both;
          due_is = batch.moves.1 ∙ due1;
          whole = λ not. absurd (not refl);
          cause = λ _. let increased = batch.cause in let older = p.crash.crash.passed.failures in omega (arith, increased, older);
        }

    module _ {k2 : S} {s2 : State} {d2 : Due} {p2 : ℕ} {a2 : Bool} {begun : List Active} {end : TurnEnd}
        (b : BeginsBatch view c1.held k1 k2 (batch_start s1 d1 p1 at a1) (batch_start s2 d2 p2 at a2) begun (Ok end)) where
      abbrev before : List Event
      before = results at p.answers ++ begins at begun

      state1 : s1 ≡ after_all s0 (results at p.answers)
      state1 = ap (λ (x : BatchStart). x.state) p.moves

      due2 : d2 ≡ due_after_all s0 d0 before
      due2 = ap (λ (x : BatchStart). x.due) b.recorded.moves
          ∙ ap (λ (s : State). due_after_all s d1 (begins at begun)) state1
          ∙ ap (λ (d : Due). due_after_all (after_all s0 (results at p.answers)) d (begins at begun)) due1
          ∙ sym (due_after_all-append s0 d0 (results at p.answers) (begins at begun))

      state2 : s2 ≡ after_all s1 (begins at begun)
      state2 = ap (λ (x : BatchStart). x.state) b.recorded.moves

      -- the turn ends as the picks did
      picked : PickedAt c1.held end (batch_start s1 d1 p1 at a1) begun
      picked = subst (λ (e : TurnEnd). PickedAt c1.held e (batch_start s1 d1 p1 at a1) begun) (sym b.ended) b.picked

      module _ (answers : List Started) (each : map (λ a. a.what) answers ≡ begun) where
        abbrev entries : List Entry
        entries = polls at p.answers ++ starts (view k2).clock answers

        begun_leaves : CrashCondition view k0 k2 s0 s2 (record { entries = entries; events = before; pending = [] })
        begun_leaves =
            joined view k0 k1 k2 s0 s1 s2 (record { entries = polls at p.answers; events = results at p.answers; pending = [] })
            (record { entries = starts (view k2).clock answers; events = begins at begun; pending = [] }) refl p.crash
            (then_started view k1 k2 s1 s2 at (view k2).clock begun answers refl each b.recorded.crash)

        ended : (k3 : S) (s3 : State) (es pending : List Event) → CrashCondition view k2 k3 s2 s3 (record { entries = []; events = es; pending = pending })
            → CrashCondition view k0 k3 s0 s3 (record { entries = entries; events = before ++ es; pending = pending })
        ended k3 s3 es pending last =
            subst (λ (l : List Entry). CrashCondition view k0 k3 s0 s3 (record { entries = l; events = before ++ es; pending = pending }))
            (append-nil entries)
            (joined view k0 k2 k3 s0 s2 s3 (record { entries = entries; events = before; pending = [] })
            (record { entries = []; events = es; pending = pending }) refl begun_leaves last)

        abbrev all_reported : TurnAnswers c1.held end (batch_start s0 d0 p0 at a0)
        all_reported = record {
          polled = p.answers;
          begun = begun;
          started = answers;
          clock = (view k2).clock;
          each_polled = p.each;
          picked = picks begun end picked;
          each_started = each;
        }

      -- the batch of refused starts failed
      pub no_refusals : {k3 : S} {s3 : State} {d3 : Due} {p3 : ℕ} {a3 : Bool} {c2 : ChildrenView} {n3 : List Notice} {f : StoreFault}
          → StartsBatch view k2 k3 (batch_start s2 d2 p2 at a2) (batch_start s3 d3 p3 at a3) begun c1 c2 n1 n3 (Err f)
          → Turns view k0 k3 (batch_start s0 d0 p0 at a0) s3 d3 from c2 n3 turn_end.Disk
      no_refusals {k3 = k3} {s3 = s3} {n3 = n3} x = let batch = x.recorded in record {
        effects = record { entries = entries x.answers x.each; events = before; pending = refusals at x.answers };
        book = both_entries from.book (polls at p.answers) (starts (view k2).clock x.answers) p.book x.book;
        log = both_entries from.log (polls at p.answers) (starts (view k2).clock x.answers) p.log x.log;
        room = both_room from.room (polls at p.answers) (starts (view k2).clock x.answers) p.room x.room;
        site = x.site ∙ p.site;
        does = subst (λ held. IsTurn held turn_end.Disk (batch_start s0 d0 p0 at a0)
            (record { entries = entries x.answers x.each; events = before; pending = refusals at x.answers }) n3) (sym x.held)
            (inr (inr (end, all_reported x.answers x.each, refl, x.reported_is ∙ p.reported_is)));
        crash =
            subst (λ (l : List Event). CrashCondition view k0 k3 s0 s3
            (record { entries = entries x.answers x.each; events = l; pending = refusals at x.answers })) (append-nil before)
            (ended x.answers x.each k3 s3 [] (refusals at x.answers) batch.crash);
        due_is = batch.moves.1 ∙ due2;
        whole = λ not. absurd (not refl);
        cause = λ _.
            let increased = batch.cause in
            let old = b.recorded.crash.crash.passed.failures in
            let older = p.crash.crash.passed.failures in
            omega (arith, increased, old, older);
      }

      is_whole : (e : TurnEnd) (x : BatchStart) (did : Effects) (reported : List Notice) → PickedAt c1.held e (batch_start s1 d1 p1 at a1) begun → Whole c1.held e x did reported
          → IsTurn c1.held e x did reported
      is_whole turn_end.Done x did reported h done = done
      is_whole turn_end.RunsSpent x did reported h done = done
      is_whole turn_end.Full x did reported h done = done
      is_whole turn_end.Memory x did reported h done = done
      is_whole turn_end.Closed x did reported h done = absurd h.0.0
      is_whole turn_end.BookFull x did reported h done = absurd h.0.0
      is_whole turn_end.Disk x did reported h done = absurd h.0.0

      not_disk : (e : TurnEnd) → PickedAt c1.held e (batch_start s1 d1 p1 at a1) begun → e ≡ turn_end.Disk → ⊥
      not_disk turn_end.Done h is = cc
      not_disk turn_end.RunsSpent h is = cc
      not_disk turn_end.Full h is = cc
      not_disk turn_end.Memory h is = cc
      not_disk turn_end.Closed h is = absurd h.0.0
      not_disk turn_end.BookFull h is = absurd h.0.0
      not_disk turn_end.Disk h is = absurd h.0.0

      -- all batches were recorded
      pub whole_turn : {k3 : S} {s3 : State} {d3 : Due} {p3 : ℕ} {a3 : Bool} {c2 : ChildrenView} {n3 : List Notice} {z : Unit}
          → StartsBatch view k2 k3 (batch_start s2 d2 p2 at a2) (batch_start s3 d3 p3 at a3) begun c1 c2 n1 n3 (Ok z)
          → Turns view k0 k3 (batch_start s0 d0 p0 at a0) s3 d3 from c2 n3 end
      whole_turn {k3 = k3} {s3 = s3} {d3 = d3} {n3 = n3} x =
          let batch = x.recorded in
          let due3 : d3 ≡ due_after_all s0 d0 (before ++ refusals at x.answers) = ap (λ (y : BatchStart). y.due) batch.moves
          ∙ ap (λ (s : State). due_after_all s d2 (refusals at x.answers))
          (state2 ∙ ap (λ (s : State). after_all s (begins at begun)) state1
          ∙ sym (after_all-append s0 (results at p.answers) (begins at begun)))
          ∙ ap (λ (d : Due). due_after_all (after_all s0 before) d (refusals at x.answers)) due2
          ∙ sym (due_after_all-append s0 d0 before (refusals at x.answers)) in
          let did : Effects = record { entries = entries x.answers x.each; events = before ++ refusals at x.answers; pending = [] } in
          record {
            effects = did;
            book = both_entries from.book (polls at p.answers) (starts (view k2).clock x.answers) p.book x.book;
            log = both_entries from.log (polls at p.answers) (starts (view k2).clock x.answers) p.log x.log;
            room = both_room from.room (polls at p.answers) (starts (view k2).clock x.answers) p.room x.room;
            site = x.site ∙ p.site;
            does = subst (λ held. IsTurn held end (batch_start s0 d0 p0 at a0) did n3) (sym x.held) (is_whole end (batch_start s0 d0 p0 at a0) did n3 picked (
              all_reported x.answers x.each,
              refl,
              x.reported_is
                  ∙ ap (λ (l : List Notice). l ++ refusal_notices at x.answers) p.reported_is,
            ));
            crash = ended x.answers x.each k3 s3 (refusals at x.answers) [] batch.crash;
            due_is = due3;
            whole = λ _. refl;
            cause = λ is. absurd (not_disk end picked is);
          }

-- the same with other notices
pub polled_reported : {S : Type 0} {view : S → StoreView} {k l : S} {x y : BatchStart} {from to : ChildrenView} {n m : List Notice} {r : Result Unit StoreFault}
    → m ≡ n → PollsBatch view k l x y from to n r → PollsBatch view k l x y from to m r
polled_reported {view = view} {k = k} {l = l} {x = x} {y = y} {from = from} {to = to} {r = r} same polled =
    subst (λ (reported : List Notice). PollsBatch view k l x y from to reported r) (sym same) polled

-- a fault of a device ends a turn as such
pub failed_end : {S : Type 0} {view : S → StoreView} {old new : S} {x : BatchStart} {t : State} {due : Due} {from to : ChildrenView} {reported : List Notice}
    (r : Result TurnEnd StoreFault) → IsErr r → Turns view old new x t due from to reported turn_end.Disk → Turns view old new x t due from to reported (end_of r)
failed_end (Ok end) bad turns = let none : ⊥ = cc in absurd none
failed_end (Err f) bad turns = turns

-- picks end neither with a full book nor with a fault of a device
pub picks_ended : {S : Type 0} {view : S → StoreView} {k l : S} {x y : BatchStart} {begun : List Active} {end : TurnEnd} {held : List (List ℕ)}
    → BeginsBatch view held k l x y begun (Ok end) → (end ≡ turn_end.BookFull → ⊥) × (end ≡ turn_end.Disk → ⊥)
picks_ended {x = x} {begun = begun} {end = end} {held = held} b = (λ is. (so is).0.0, λ is. (so is).0.0)
  where
    so : {reported : TurnEnd} → end ≡ reported → PickedAt held reported x begun
    so is = subst (λ (e : TurnEnd). PickedAt held e x begun) (sym b.ended ∙ is) b.picked
