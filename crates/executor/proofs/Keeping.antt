-- Commands begin and end nothing that runs.
use Rattle.std.proofs.Common.{◌≡◌, ◌<◌, ◌≤◌, ℕ, Bool, true, false, ◌||◌, List, [], ◌∷◌, ◌++◌, Some, None, Option, is_some, length, nat_eq, nat_lt, Contains, refl, sym, ◌∙◌, ap, subst, arith}
use Rattle.std.specs.List.{AllByRecursion, IsDistinct, list_any}
use Rattle.std.proofs.lemmas.Bool.{or_parts}
use Rattle.ocf_model.specs.Resource.{is_busy}
use Rattle.ocf_model.specs.State.{Registry, State}
use Rattle.ocf_types.specs.declared.operation.Running.{Running}
use Rattle.ocf_model.specs.Boot.{any_busy}
use Rattle.child_model.specs.Children.{ChildrenView, all_ended}
use Rattle.exec_ledger.specs.Actives.{KeepsRuns, Active, active_of, all_in, runs_of}
use Rattle.ocf_types.specs.declared.notice.Notice.{Notice}
use Rattle.ocf_env.specs.Locations.{SiteView}
use Rattle.exec_ledger.specs.LedgerView.{LedgerView}
use Rattle.exec_turn.specs.Turns.{ChildrenMatch}
use Rattle.executor.specs.Reports.{ReportView}
use Rattle.executor.specs.ExecutorView.{ChildrenKeep, executor_view}

-- where the running actions are as they were, their agent processes still live
pub kept_matched : (s t : State) (v : ChildrenView) → KeepsRuns s t → ChildrenMatch s v → ChildrenMatch t v
kept_matched s t v keeps matched =
    let next = keeps.next in
    let low = matched.rising in record {
      agents_live = record {
        each_lives =
            subst (λ (l : List Active). AllByRecursion (λ run. Contains v.live run) (runs_of l)) (sym keeps.runs) matched.agents_live.each_lives;
        distinct = subst (λ (l : List Active). IsDistinct nat_eq (runs_of l)) (sym keeps.runs) matched.agents_live.distinct;
        few = subst (λ (l : List Active). length v.live ≤ length l) (sym keeps.runs) matched.agents_live.few;
      };
      ended = matched.ended;
      rising = omega (arith, next, low);
    }

-- so the executor's part of the invariant is kept with the ledger's
pub kept_tends : {S : Type 0} (h k : LedgerView S) (v : ChildrenView) (w : SiteView) (n m : List Notice) (r : ReportView)
    → KeepsRuns h.state k.state → ChildrenKeep (executor_view h v w n r) → ChildrenKeep (executor_view k v w m r)
kept_tends h k v w n m r keeps tends = record { matched = kept_matched h.state k.state v keeps tends.matched; admits = tends.admits }

-- a resource that is not busy runs nothing
quiet_runs : (q : Bool) (o : Option Running) → (q || is_some o) ≡ false → o ≡ None
quiet_runs q None is = refl
quiet_runs true (Some x) is = absurd (let bad : true ≡ false = is in cc)
quiet_runs false (Some x) is = absurd (let bad : true ≡ false = is in cc)

-- where nothing is queued or running no agent process is needed
nothing_in : (rs : Registry) → list_any (λ e. is_busy e.1.history) rs ≡ false → all_in rs ≡ []
nothing_in [] quiet = refl
nothing_in (e ∷ rs) quiet =
    let parts = or_parts (is_busy e.1.history) (list_any (λ x. is_busy x.1.history) rs) quiet in
    let none = quiet_runs (nat_lt 0 (length e.1.history.queue)) e.1.history.running parts.0 in
    ap (λ (o : Option Running). active_of e.0 o ++ all_in rs) none ∙ nothing_in rs parts.1

pub quiet_matched : (t : State) (v : ChildrenView) (held : List (List ℕ)) → any_busy t ≡ false → v.last_run < t.next_run
    → ChildrenMatch t (all_ended v held)
unfolding IsDistinct
quiet_matched t v held quiet low =
    let none = nothing_in t.resources quiet in record {
      agents_live = record {
        each_lives = subst (λ (l : List Active). AllByRecursion (λ run. Contains (all_ended v held).live run) (runs_of l)) (sym none) tt;
        distinct = subst (λ (l : List Active). IsDistinct nat_eq (runs_of l)) (sym none) tt;
        few = omega arith;
      };
      ended = refl;
      rising = low;
    }
