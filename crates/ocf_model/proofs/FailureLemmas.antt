-- The state keeps the result of a failed notice as its resource's last failure.
use Rattle.std.proofs.Common.{◌≡◌, ℕ, Bool, true, false, List, Option, Some, IsSomeAnd, if◌then◌else◌, option_map, refl, sym, ap, subst, ◌∙◌}
use Rattle.std.specs.Prelude.{None, option_and_then}
use Rattle.std.specs.Option.{option_or}
use Rattle.std.specs.Str.{bytes_eq}
use Rattle.std.proofs.lemmas.Map.Made.{lookup-map_values}
use Rattle.ocf_model.specs.Boot.{boot_at}
use Rattle.ocf_types.specs.Expected.{has_failed}
use Rattle.ocf_types.specs.Kinds.{Step}
use Rattle.ocf_model.specs.Notices.{last_failure, run_notice}
use Rattle.ocf_model.specs.RegistryLemmas.{lookup-at_id_here}
use Rattle.ocf_model.specs.Resource.{History, Resource, booted, ended_of, failed_after, failed_of}
use Rattle.ocf_model.specs.State.{State, after, on_history, resource_at, stepped}
use Rattle.ocf_types.specs.declared.event.Change.TheVariants as change
use Rattle.ocf_types.specs.declared.event.Step.TheVariants as step
use Rattle.ocf_types.specs.declared.operation.Ended.{Ended}
use Rattle.ocf_types.specs.declared.operation.Running.{Running}
use Rattle.ocf_types.specs.declared.outcome.Outcome.{Outcome}
use Rattle.ocf_types.specs.declared.outcome.Outcome.TheVariants.{Run}
use Rattle.ocf_types.specs.declared.outcome.RunEnd.{RunEnd}

-- the first of two options by a condition, else the second
kept_or : (b : Bool) (e : Ended) (before : Option Ended) → option_or (if b then Some e else None) before ≡ (if b then Some e else before)
kept_or true e before = refl
kept_or false e before = refl

-- the last failure of a history whose run has ended
failure_after : (id : List ℕ) (outcome : Outcome) (at : ℕ) (h : History) (x : Running) → h.running ≡ Some x
    → failed_after outcome at h ≡ last_failure (run_notice id outcome at x) h.failed
failure_after id outcome at h x runs =
    ap (λ (o : Option Running). option_or (option_and_then (failed_of outcome at) o) h.failed) runs
    ∙ kept_or (has_failed x.task.action x.task.check.expect outcome) (ended_of outcome at x) h.failed

-- the same of its resource
pub failure_kept : (s : State) (at : ℕ) (id : List ℕ) (end : RunEnd) (r : Resource) (x : Running) → resource_at s id ≡ Some r
    → r.history.running ≡ Some x
    → IsSomeAnd (resource_at (after s (record { at = at; change = change.Step id (step.Result x.run end) })) id)
    (λ q. q.history.failed ≡ last_failure (run_notice id (Run end) at x) r.history.failed)
failure_kept s at id end r x there runs =
    let what : Step = step.Result x.run end in
    let now : resource_at (after s (record { at = at; change = change.Step id what })) id ≡ Some (stepped at what r)
    = lookup-at_id_here id (stepped at what) s.resources r there in
    subst (λ (o : Option Resource). IsSomeAnd o (λ q. q.history.failed ≡ last_failure (run_notice id (Run end) at x) r.history.failed))
    (sym now) (failure_after id (Run end) at r.history x runs)

-- a boot leaves the last failure as it was
pub boot_keeps_failure : (s : State) (at : ℕ) (id : List ℕ) (r : Resource) → resource_at s id ≡ Some r
    → IsSomeAnd (resource_at (after s (boot_at at)) id) (λ q. q.history.failed ≡ r.history.failed)
boot_keeps_failure s at id r there =
    let now : resource_at (after s (boot_at at)) id ≡ Some (on_history (booted at) r)
    = lookup-map_values (on_history (booted at)) (bytes_eq id) s.resources ∙ ap (option_map (on_history (booted at))) there in
    subst (λ (o : Option Resource). IsSomeAnd o (λ q. q.history.failed ≡ r.history.failed)) (sym now) refl
