-- Events that apply, and one resource.
use Rattle.std.proofs.Common.{◌≡◌, ◌≢◌, ℕ, ◌+◌, ◌≤◌, ◌<◌, Bool, true, false, cond, not, List, [], ◌∷◌, ◌++◌, map, Option, Some, None, option_map, refl, sym, ap, subst, ◌∙◌, arith}
use Rattle.std.specs.Prelude.{IsSomeAnd}
use Rattle.std.specs.List.{AllByRecursion}
use Rattle.std.specs.Map.{lookup}
use Rattle.std.specs.Str.{bytes_eq}
use Rattle.std.proofs.lemmas.Map.Entries.{lookup-filter-keys}
use Rattle.std.proofs.lemmas.Slice.Eq.{bytes_eq-Decides}
use Rattle.ocf_model.specs.Applies.{ChangeApplies, StepApplies}
use Rattle.ocf_types.specs.Kinds.{Change, Event, Registration, Step}
use Rattle.ocf_types.specs.Numbers.{IsAscending}
use Rattle.ocf_types.specs.Lemmas.{each_weaken}
use Rattle.ocf_model.specs.RegistryLemmas.{found, other_stays}
use Rattle.ocf_model.specs.Resource.{Resource, booted, is_busy}
use Rattle.ocf_model.specs.State.{State, after, at_id, changed, on_history, registered, resource_at, runs_drawn, stepped}
use Rattle.ocf_types.specs.declared.event.Change.TheVariants as change
use Rattle.ocf_types.specs.declared.event.Step.TheVariants as step
use Rattle.executor_laws.specs.Histories.{Follow, RunsAscend, run_of, runs_begun}

-- the resource of an id before a change that applies and after it
abbrev pub Turned : State → List ℕ → ℕ → Change → Option Resource → Option Resource → Type 0
Turned s id at (change.Register r) was now = cond (bytes_eq id r.id) ((was ≡ None) × (now ≡ Some (registered r).1)) (now ≡ was)
Turned s id at (change.Unregister other) was now =
    cond (bytes_eq id other) (IsSomeAnd was (λ r. is_busy r.history ≡ false) × (now ≡ None)) (now ≡ was)
Turned s id at (change.Step other what) was now =
    cond (bytes_eq id other) ((r : Resource) × (was ≡ Some r) × StepApplies s.next_call s.next_run what r × (now ≡ Some (stepped at what r)))
    (now ≡ was)
Turned s id at change.Boot was now = now ≡ option_map (on_history (booted at)) was

module _ {A : Type 0} where
  pub lookup-own : (id : List ℕ) (f : A → A) (es : List (List ℕ × A))
      → lookup (bytes_eq id) (at_id id f es) ≡ option_map f (lookup (bytes_eq id) es)
  lookup-own id f [] = refl
  lookup-own id f (e ∷ es) = by (bytes_eq id e.0) (lookup-own id f es)
    where
      by : (b : Bool) → lookup (bytes_eq id) (at_id id f es) ≡ option_map f (lookup (bytes_eq id) es)
          → cond b (Some (cond b (f e.1) e.1)) (lookup (bytes_eq id) (at_id id f es))
          ≡ option_map f (cond b (Some e.1) (lookup (bytes_eq id) es))
      by true k = refl
      by false k = k

  lookup-each : (id : List ℕ) (f : A → A) (es : List (List ℕ × A))
      → lookup (bytes_eq id) (map (λ e. (e.0, f e.1)) es) ≡ option_map f (lookup (bytes_eq id) es)
  lookup-each id f [] = refl
  lookup-each id f (e ∷ es) = by (bytes_eq id e.0) (lookup-each id f es)
    where
      by : (b : Bool) → lookup (bytes_eq id) (map (λ e. (e.0, f e.1)) es) ≡ option_map f (lookup (bytes_eq id) es)
          → cond b (Some (f e.1)) (lookup (bytes_eq id) (map (λ e. (e.0, f e.1)) es))
          ≡ option_map f (cond b (Some e.1) (lookup (bytes_eq id) es))
      by true k = refl
      by false k = k

  lookup-push : (id : List ℕ) (es : List (List ℕ × A)) (e : List ℕ × A) → lookup (bytes_eq id) es ≡ None → bytes_eq id e.0 ≡ true
      → lookup (bytes_eq id) (es ++ e ∷ []) ≡ Some e.1
  lookup-push id [] e none own = rw own refl
  lookup-push id (x ∷ xs) e none own = by (bytes_eq id x.0) none (λ h. lookup-push id xs e h own)
    where
      by : (b : Bool) → cond b (Some x.1) (lookup (bytes_eq id) xs) ≡ None
          → (lookup (bytes_eq id) xs ≡ None → lookup (bytes_eq id) (xs ++ e ∷ []) ≡ Some e.1)
          → cond b (Some x.1) (lookup (bytes_eq id) (xs ++ e ∷ [])) ≡ Some e.1
      by true h k = absurd (cc)
      by false h k = k h

differs : (id other : List ℕ) → bytes_eq id other ≡ false → other ≢ id
differs id other apart same = let own : bytes_eq id other ≡ true = (bytes_eq-Decides id other).1 (sym same) in let bad : true ≡ false = sym own ∙ apart in cc

is_id : (id other : List ℕ) → bytes_eq id other ≡ true → id ≡ other
is_id id other own = (bytes_eq-Decides id other).0 own

module _ (s : State) (id : List ℕ) (at : ℕ) where
  abbrev was : Option Resource
  was = resource_at s id

  abbrev now : Change → Option Resource
  now c = lookup (bytes_eq id) (changed at c s.resources)

  turned_register : (r : Registration) (b : Bool) → bytes_eq id r.id ≡ b → ChangeApplies s (change.Register r)
      → cond b ((was ≡ None) × (now (change.Register r) ≡ Some (registered r).1)) (now (change.Register r) ≡ was)
  turned_register r true own applies =
      let same = is_id id r.id own in
      let none : resource_at s id ≡ None = subst (λ (k : List ℕ). resource_at s k ≡ None) (sym same) applies.0 in
      (none, lookup-push id s.resources (registered r) none own)
  turned_register r false apart applies =
      other_stays at (change.Register r) s.resources r.id id refl (differs id r.id apart)

  turned_unregister : (other : List ℕ) (b : Bool) → bytes_eq id other ≡ b → ChangeApplies s (change.Unregister other)
      → cond b (IsSomeAnd was (λ r. is_busy r.history ≡ false) × (now (change.Unregister other) ≡ None)) (now (change.Unregister other) ≡ was)
  turned_unregister other true own applies =
      let same = is_id id other own in (
        subst (λ (k : List ℕ). IsSomeAnd (resource_at s k) (λ r. is_busy r.history ≡ false)) (sym same) applies,
        subst (λ (k : List ℕ). lookup (bytes_eq id) (changed at (change.Unregister k) s.resources) ≡ None) same
            (lookup-filter-keys (bytes_eq id) (λ k. not (bytes_eq id k)) false (λ k e. rw e refl) s.resources),
      )
  turned_unregister other false apart applies =
      other_stays at (change.Unregister other) s.resources other id refl (differs id other apart)

  turned_step : (other : List ℕ) (what : Step) (b : Bool) → bytes_eq id other ≡ b → ChangeApplies s (change.Step other what)
      → cond b ((r : Resource) × (was ≡ Some r) × StepApplies s.next_call s.next_run what r × (now (change.Step other what) ≡ Some (stepped at what r)))
      (now (change.Step other what) ≡ was)
  turned_step other what true own applies =
      let same = is_id id other own in
      let f = found (resource_at s id) (StepApplies s.next_call s.next_run what)
      (subst (λ (k : List ℕ). IsSomeAnd (resource_at s k) (StepApplies s.next_call s.next_run what)) (sym same) applies) in (
        f.0,
        f.1,
        f.2,
        subst (λ (k : List ℕ). lookup (bytes_eq id) (changed at (change.Step k what) s.resources) ≡ Some (stepped at what f.0)) same
            (lookup-own id (stepped at what) s.resources ∙ ap (option_map (stepped at what)) f.1),
      )
  turned_step other what false apart applies =
      other_stays at (change.Step other what) s.resources other id refl (differs id other apart)

  -- a change that applies changes it so
  pub turned : (c : Change) → ChangeApplies s c → Turned s id at c was (now c)
  turned (change.Register r) applies = turned_register r (bytes_eq id r.id) refl applies
  turned (change.Unregister other) applies = turned_unregister other (bytes_eq id other) refl applies
  turned (change.Step other what) applies = turned_step other what (bytes_eq id other) refl applies
  turned change.Boot applies = lookup-each id (on_history (booted at)) s.resources

-- runs ascend
pub runs_ascend : (s : State) (es : List Event) → Follow s es → RunsAscend s es
runs_ascend s [] h = (tt, tt)
runs_ascend s (e ∷ es) h = by e.change h.0 (runs_ascend (after s e) es h.1)
  where
    by : (c : Change) → ChangeApplies s c
        → AllByRecursion (λ run. s.next_run + runs_drawn c ≤ run) (runs_begun es) × IsAscending (runs_begun es)
        → AllByRecursion (λ run. s.next_run ≤ run) (run_of c ++ runs_begun es) × IsAscending (run_of c ++ runs_begun es)
    by (change.Step id (step.Begin call run)) applies rest =
        let f = found (resource_at s id) (StepApplies s.next_call s.next_run (step.Begin call run)) applies in
        let next : run ≡ s.next_run = f.2.2.0 in (
          (omega (arith, next), each_weaken (λ (n : ℕ). s.next_run + 1 ≤ n) (λ n. s.next_run ≤ n) (λ n le. omega (arith, le)) (runs_begun es) rest.0),
          (each_weaken (λ (n : ℕ). s.next_run + 1 ≤ n) (λ n. run < n) (λ n le. omega (arith, le, next)) (runs_begun es) rest.0, rest.1),
        )
    by _ applies rest =
        (each_weaken (λ (n : ℕ). s.next_run + 0 ≤ n) (λ n. s.next_run ≤ n) (λ n le. omega (arith, le)) (runs_begun es) rest.0, rest.1)
