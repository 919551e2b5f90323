-- The crash condition of calls, one after the other.
use Rattle.std.proofs.Common.{◌≡◌, ℕ, Bool, true, false, List, [], ◌∷◌, refl, sym, ap, subst, ◌∙◌}
use Rattle.std.proofs.lemmas.Bool.{false≢true}
use Rattle.ocf_types.specs.Kinds.{Command, Event}
use Rattle.ocf_model.specs.Answer.{Reply}
use Rattle.ocf_model.specs.State.{after_all}
use Rattle.ocf_model.specs.declared.reply.TurnEnd.{TurnEnd}
use Rattle.exec_ledger.specs.Lemmas.{of_closed, of_open}
use Rattle.exec_ledger.specs.Pieces.{Effects, CrashCondition, followed_by, no_effects, batch_effects}
use Rattle.executor.specs.CallLemmas.{followed_by_assoc, followed_by_none}
use Rattle.executor.specs.Exchanges.{Abandoned, Calls, Cleared, Does, Exchange, Finished, Batch, Took, Tidied}
use Rattle.executor.specs.FinishCalls.{FinishedWhile}
use Rattle.executor_laws.specs.Machine.{AnswersClosed}
use Rattle.executor.specs.BatchCalls.{TakesBatch}
use Rattle.executor.specs.ExecutorView.{ExecutorView}
use Rattle.exec_ledger.specs.LedgerView.{LedgerView}
use Rattle.executor.proofs.Sessions.Growing.{Onward, leads_open, leads_still, leads_turn, onward, onward_at, onward_joined}
use Rattle.store_model.specs.StoreView.{StoreView}

module _ {S : Type 0} (view : S → StoreView) where
  -- calls of a closed executor leave it closed, over the same store, and do nothing
  pub record Closed (x y : ExecutorView S) (d : Effects) : Type 0 where
    pub is_closed : y.is_open ≡ false
    pub store : y.store ≡ x.store
    pub nothing : d ≡ no_effects

  stays_closed : (x y : ExecutorView S) (d : Effects) → x.is_open ≡ false → y ≡ x → d ≡ no_effects → Closed x y d
  stays_closed x y d closed same nothing = record {
    is_closed = ap (λ (z : ExecutorView S). z.is_open) same ∙ closed;
    store = ap (λ (z : ExecutorView S). z.store) same;
    nothing = nothing;
  }

  pub does_nothing : (e : Exchange) (x y : ExecutorView S) (d : Effects) → x.is_open ≡ false → Does view e x y d
      → AnswersClosed e × Closed x y d
  does_nothing (Took i reply) x y d closed does =
      let none = of_closed _ _ closed does in (none.0, stays_closed x y d closed none.1 none.2)
  does_nothing (Batch now commands replies) x y d closed does = absurd (false≢true (sym closed ∙ does.takes.was_open))
  does_nothing (Finished now end) x y d closed does =
      let none = of_closed _ _ closed does in (none.0, stays_closed x y d closed none.1 none.2)
  does_nothing (Tidied end) x y d closed does =
      let none = of_closed _ _ closed does.0 in (none.0, stays_closed x y d closed none.1 does.1)
  does_nothing Cleared x y d closed does = (
    tt,
    record { is_closed = ap (λ (z : ExecutorView S). z.is_open) does.0 ∙ closed; store = ap (λ (z : ExecutorView S). z.store) does.0; nothing = does.1 },
  )
  does_nothing Abandoned x y d closed does = (
    tt,
    record { is_closed = ap (λ (z : ExecutorView S). z.is_open) does.0.2; store = ap (λ (z : ExecutorView S). z.store) does.0.2; nothing = does.1 },
  )

  pub calls_closed : (x z : ExecutorView S) (es : List Exchange) (d : Effects) → x.is_open ≡ false → Calls view x es z d → Closed x z d
  calls_closed x z [] d closed calls = stays_closed x z d closed calls.0 calls.1
  calls_closed x z (e ∷ es) d closed (mid, first, later, does, rest, is) =
      let one = (does_nothing e x mid first closed does).1 in
      let others = calls_closed mid z es later one.is_closed rest in
      record {
        is_closed = others.is_closed;
        store = others.store ∙ one.store;
        nothing = is ∙ (λ k. followed_by (one.nothing k) (others.nothing k));
      }

  -- a batch has the crash condition of any call
  batch_going : (o : Bool) (x y : ExecutorView S) (es : List Event) → y.is_open ≡ o
      → CrashCondition view x.store y.store x.state (after_all x.state (batch_effects o es).events) (batch_effects o es)
      → y.state ≡ after_all x.state es → Onward view x y (batch_effects o es)
  batch_going true x y es is_open leaves state = record { crash = leaves; state = λ _. state; whole = λ _. refl }
  batch_going false x y es closed leaves state = record {
    crash = leaves;
    state = λ is_open. absurd (false≢true (sym closed ∙ is_open));
    whole = λ is_open. absurd (false≢true (sym closed ∙ is_open));
  }

  batch_onward : (x y : ExecutorView S) (now : ℕ) (commands : List Command) (replies : List Reply) (d : Effects)
      → TakesBatch view now commands x y replies d → Onward view x y d
  batch_onward x y now commands replies d takes =
      let batch = takes.takes.records in
      subst (λ (e : Effects). Onward view x y e) (sym takes.does)
      (batch_going y.is_open x y takes.takes.events refl batch.crash (ap (λ (h : LedgerView S). h.state) batch.went.same))

  -- so has a turn that begins nothing
  finish_onward : (x y : ExecutorView S) (now : ℕ) (end : TurnEnd) (d : Effects) → FinishedWhile true view now x y end d → Onward view x y d
  finish_onward x y now end d (takes, does) =
      subst (λ (e : Effects). Onward view x y e) (sym does) (onward view x y _ (leads_turn view now x y end takes))

  -- one more call, of an open executor
  taken_more : (o : Bool) (w x y : ExecutorView S) (e : Exchange) (a d : Effects) → x.is_open ≡ o → Does view e x y d → Onward view w x a
      → Onward view w y (followed_by a d)
  taken_more true w x y (Took i reply) a d is_open does so_far =
      onward_joined view w x y a d is_open so_far
      (onward view x y d (leads_open view i x y reply d (leads_still view w x a is_open so_far)
      (of_open _ _ is_open does)))
  taken_more true w x y (Batch now commands replies) a d is_open does so_far =
      onward_joined view w x y a d is_open so_far (batch_onward x y now commands replies d does)
  taken_more true w x y (Finished now end) a d is_open does so_far =
      let finishes = of_open _ _ is_open does in
      onward_joined view w x y a d is_open so_far (finish_onward x y now end d finishes)
  taken_more true w x y (Tidied end) a d is_open does so_far =
      let tidies = (of_open _ _ is_open does.0).0 in
      subst (λ (b : Effects). Onward view w y (followed_by a b)) (sym does.1)
      (onward_joined view w x y a no_effects is_open so_far (onward_at view x y no_effects tidies.crash (λ _. refl)))
  taken_more true w x y Cleared a d is_open does so_far =
      subst (λ (b : Effects). Onward view w y b) (sym (followed_by_none a) ∙ ap (followed_by a) (sym does.1))
      (subst (λ (z : ExecutorView S). Onward view w z a) (sym does.0)
      (record { crash = so_far.crash; state = so_far.state; whole = so_far.whole }))
  taken_more true w x y Abandoned a d is_open does so_far =
      subst (λ (b : Effects). Onward view w y b) (sym (followed_by_none a) ∙ ap (followed_by a) (sym does.1))
      (subst (λ (z : ExecutorView S). Onward view w z a) (sym does.0.2)
      (record { crash = so_far.crash; state = λ bad. absurd (false≢true bad); whole = λ bad. absurd (false≢true bad) }))
  taken_more false w x y e a d closed does so_far =
      let none = (does_nothing e x y d closed does).1 in
      subst (λ (b : Effects). Onward view w y b) (sym (followed_by_none a) ∙ ap (followed_by a) (sym none.nothing)) (record {
        crash = subst (λ (k : S). CrashCondition view w.store k w.state (after_all w.state a.events) a) (sym none.store) so_far.crash;
        state = λ bad. absurd (false≢true (sym none.is_closed ∙ bad));
        whole = λ bad. absurd (false≢true (sym none.is_closed ∙ bad));
      })

  -- any more calls
  pub calls_more : (w x z : ExecutorView S) (es : List Exchange) (a d : Effects) → Calls view x es z d → Onward view w x a
      → Onward view w z (followed_by a d)
  calls_more w x z [] a d calls so_far =
      subst (λ (y : ExecutorView S). Onward view w y (followed_by a d)) (sym calls.0)
      (subst (λ (b : Effects). Onward view w x b) (sym (followed_by_none a) ∙ ap (followed_by a) (sym calls.1)) so_far)
  calls_more w x z (e ∷ es) a d (mid, first, later, does, rest, is) so_far =
      subst (λ (b : Effects). Onward view w z b) (sym (followed_by_assoc a first later) ∙ ap (followed_by a) (sym is))
      (calls_more w mid z es (followed_by a first) later rest (taken_more x.is_open w x mid e a first refl does so_far))
