-- A boot reports a run without an end as interrupted, once.
use Rattle.std.proofs.Common.{◌≡◌, ◌≢◌, ℕ, ◌+◌, ◌≤◌, ◌<◌, Bool, true, false, cond, not, List, [], ◌∷◌, ◌++◌, map, filter, Option, Some, None, option_to_list, flat_map, refl, sym, ap, ap₂, subst, ◌∙◌, arith, append_assoc}
use Rattle.std.specs.List.{AllByRecursion, IsDistinct}
use Rattle.std.specs.Map.{keys_of, lookup}
use Rattle.std.specs.Str.{bytes_eq}
use Rattle.std.proofs.lemmas.Bool.{false≢true, ne_eqb}
use Rattle.std.proofs.lemmas.Cmp.{nat_list_eq_equiv}
use Rattle.std.proofs.lemmas.List.{append-nil, map-append}
use Rattle.std.proofs.lemmas.List.Elements.{filter-append}
use Rattle.std.proofs.lemmas.Map.Keys.{IsDistinct-head, IsDistinct-tail, IsDistinct-push}
use Rattle.std.proofs.lemmas.Slice.Eq.{bytes_eq-Decides}
use Rattle.ocf_model.specs.Applies.{ChangeApplies}
use Rattle.ocf_types.specs.Kinds.{Change, Event}
use Rattle.ocf_model.specs.LawfulState.{IsLawfulState, IsLawfulResource, IsLawfulRunning}
use Rattle.ocf_types.specs.Lemmas.{same_number, some_is}
use Rattle.ocf_model.specs.RegistryLemmas.{absent_any, distinct_filter, keys-at_id, same_id}
use Rattle.ocf_model.specs.Resource.{Resource, booted}
use Rattle.ocf_model.specs.State.{Registry, State, after, after_all, changed, on_history, registered, runs_drawn, stepped}
use Rattle.ocf_types.specs.declared.event.Change.TheVariants as change
use Rattle.ocf_types.specs.declared.event.Step.TheVariants as step
use Rattle.ocf_types.specs.declared.operation.Running.{Running}
use Rattle.ocf_types.specs.declared.notice.Notice.{Notice}
use Rattle.executor_laws.specs.Histories.{Follow, InterruptedOnce, ends_run, has_end, interruptions, is_of, written_by}
use Rattle.executor.specs.Interruptions.{interrupted, interrupted_in, interruption}
use Rattle.executor_laws.proofs.History.Runs.{Ran, begun_so, both_false, follow_after, follow_first, ran, running_at, runs_in, stays}

-- ids stay distinct
abbrev pub AreApart : State → Type 0
AreApart s = IsDistinct bytes_eq (keys_of s.resources)

keys-each : {A : Type 0} (f : A → A) (es : List (List ℕ × A)) → keys_of (map (λ e. (e.0, f e.1)) es) ≡ keys_of es
keys-each f [] = refl
keys-each f (e ∷ es) = ap (λ (ks : List (List ℕ)). e.0 ∷ ks) (keys-each f es)

apart_kept : (at : ℕ) (c : Change) (s : State) → ChangeApplies s c → AreApart s → IsDistinct bytes_eq (keys_of (changed at c s.resources))
apart_kept at (change.Register r) s h apart = rw (map-append (λ (e : List ℕ × Resource). e.0) s.resources (registered r ∷ []))
    (IsDistinct-push nat_list_eq_equiv (keys_of s.resources) r.id apart (absent_any r.id s.resources h.0))
apart_kept at (change.Unregister id) s h apart =
    distinct_filter bytes_eq (λ (e : List ℕ × Resource). e.0) (λ e. not (bytes_eq id e.0)) s.resources apart
apart_kept at (change.Step id what) s h apart = rw (keys-at_id id (stepped at what) s.resources) apart
apart_kept at change.Boot s h apart = rw (keys-each (on_history (booted at)) s.resources) apart

-- the runs of one resource's actions are below the next run
abbrev IsBelow : State → List ℕ → Type 0
IsBelow s id = (x : Running) → running_at s id ≡ Some x → x.run < s.next_run

abbrev pub NotRuns : State → List ℕ → ℕ → Type 0
NotRuns s id run = (x : Running) → running_at s id ≡ Some x → x.run ≢ run

-- the interruptions of a resource's run in a state
abbrev reported_one : List ℕ → ℕ → ℕ → Option Running → List Notice
reported_one id run at o = filter (is_of id run) (map (interruption id at) (option_to_list o))

not_other : (id other : List ℕ) (run at : ℕ) (o : Option Running) → bytes_eq id other ≡ false
    → filter (is_of id run) (map (interruption other at) (option_to_list o)) ≡ []
not_other id other run at None apart = refl
not_other id other run at (Some x) apart = rw apart refl

absent : (id : List ℕ) (run at : ℕ) (es : Registry) → AllByRecursion (λ k. bytes_eq id k ≡ false) (keys_of es)
    → filter (is_of id run) (flat_map (interrupted_in at) es) ≡ []
absent id run at [] h = refl
absent id run at (e ∷ es) h =
    filter-append (is_of id run) (interrupted_in at e) (flat_map (interrupted_in at) es)
    ∙ ap₂ (λ (a b : List Notice). a ++ b) (not_other id e.0 run at e.1.history.running h.0) (absent id run at es h.1)

reported_of_it : (id : List ℕ) (run at : ℕ) (es : Registry) → IsDistinct bytes_eq (keys_of es)
    → filter (is_of id run) (flat_map (interrupted_in at) es) ≡ reported_one id run at (runs_in (lookup (bytes_eq id) es))
reported_of_it id run at [] apart = refl
reported_of_it id run at (e ∷ es) apart =
    filter-append (is_of id run) (interrupted_in at e) (flat_map (interrupted_in at) es)
    ∙ by (bytes_eq id e.0) refl (reported_of_it id run at es (IsDistinct-tail bytes_eq e.0 (keys_of es) apart))
  where
    by : (b : Bool) → bytes_eq id e.0 ≡ b
        → filter (is_of id run) (flat_map (interrupted_in at) es) ≡ reported_one id run at (runs_in (lookup (bytes_eq id) es))
        → filter (is_of id run) (interrupted_in at e) ++ filter (is_of id run) (flat_map (interrupted_in at) es)
        ≡ reported_one id run at (runs_in (cond b (Some e.1) (lookup (bytes_eq id) es)))
    by true own rest =
        let same : id ≡ e.0 = (bytes_eq-Decides id e.0).0 own in
        let none : filter (is_of id run) (flat_map (interrupted_in at) es) ≡ [] =
        absent id run at es (subst (λ (k : List ℕ). AllByRecursion (λ y. bytes_eq k y ≡ false) (keys_of es)) (sym same)
        (IsDistinct-head bytes_eq e.0 (keys_of es) apart)) in
        ap (λ (l : List Notice). filter (is_of id run) (interrupted_in at e) ++ l) none
        ∙ append-nil (filter (is_of id run) (interrupted_in at e))
        ∙ ap (λ (k : List ℕ). filter (is_of id run) (map (interruption k at) (option_to_list e.1.history.running))) (sym same)
    by false other rest =
        ap (λ (l : List Notice). l ++ filter (is_of id run) (flat_map (interrupted_in at) es)) (not_other id e.0 run at e.1.history.running other)
        ∙ rest

module _ (id : List ℕ) (run : ℕ) where
  -- none where the run does not run, and one where it does
  reported_none : (at : ℕ) (o : Option Running) → ((x : Running) → o ≡ Some x → x.run ≢ run) → reported_one id run at o ≡ []
  reported_none at None h = refl
  reported_none at (Some x) h = rw (same_id id, ne_eqb x.run run (h x refl)) refl

  pub quiet : (s : State) (at : ℕ) (c : Change) → AreApart s → NotRuns s id run → filter (is_of id run) (written_by s at c) ≡ []
  quiet s at change.Boot apart h = reported_of_it id run at s.resources apart ∙ reported_none at (running_at s id) h
  quiet s at _ apart h = refl

  reported_once : (at : ℕ) (x : Running) → x.run ≡ run → reported_one id run at (Some x) ≡ interruption id at x ∷ []
  reported_once at x is = rw (same_id id, same_number x.run run is) refl

  -- events before its begin
  pub grows : (s : State) (es : List Event) → s.next_run ≤ (after_all s es).next_run
  grows s [] = omega arith
  grows s (e ∷ es) = let rest = grows (after s e) es in omega (arith, rest)

  below_kept : (s : State) (c : Change) (now : Option Running) → IsBelow s id → Ran s id c (running_at s id) now
      → (x : Running) → now ≡ Some x → x.run < s.next_run + runs_drawn c
  below_kept s (change.Step other (step.Begin call n)) now below so x is = by (bytes_eq id other) so
    where
      by : (b : Bool)
          → cond b ((running_at s id ≡ None) × (y : Running) × (now ≡ Some y) × (y.call ≡ call) × (y.run ≡ n) × (n ≡ s.next_run)) (now ≡ running_at s id)
          → x.run < s.next_run + 1
      by true h =
          let same : x ≡ h.1 = some_is x h.1 (sym is ∙ h.2) in
          let number : x.run ≡ s.next_run = ap (λ (y : Running). y.run) same ∙ h.4 ∙ h.5 in omega (arith, number)
      by false h = let lt = below x (sym h ∙ is) in omega (arith, lt)
  below_kept s (change.Step other (step.Result n end)) now below so x is = by (bytes_eq id other) so
    where
      by : (b : Bool) → cond b ((y : Running) × (running_at s id ≡ Some y) × (y.run ≡ n) × (now ≡ None)) (now ≡ running_at s id)
          → x.run < s.next_run + 0
      by true h = absurd (let bad : None ≡ Some x = sym h.3 ∙ is in cc)
      by false h = let lt = below x (sym h ∙ is) in omega (arith, lt)
  below_kept s change.Boot now below so x is = absurd (let bad : None ≡ Some x = sym so ∙ is in cc)
  below_kept s _ now below so x is = let lt = below x (sym so ∙ is) in omega (arith, lt)

  pub none_before : (s : State) (es : List Event) → AreApart s → IsBelow s id → Follow s es → (after_all s es).next_run ≤ run
      → filter (is_of id run) (interruptions s es) ≡ []
  none_before s [] apart below follow high = refl
  none_before s (e ∷ es) apart below follow high =
      let up = grows s (e ∷ es) in
      filter-append (is_of id run) (written_by s e.at e.change) (interruptions (after s e) es)
      ∙ ap₂ (λ (a b : List Notice). a ++ b)
      (quiet s e.at e.change apart (λ x is same. let lt = below x is in omega (arith, lt, up, high, same)))
      (none_before (after s e) es (apart_kept e.at e.change s follow.0 apart)
      (below_kept s e.change (running_at (after s e) id) below (ran s id e.at e.change follow.0)) follow.1 high)

  pub apart_all : (s : State) (es : List Event) → Follow s es → AreApart s → AreApart (after_all s es)
  apart_all s [] follow apart = apart
  apart_all s (e ∷ es) follow apart = apart_all (after s e) es follow.1 (apart_kept e.at e.change s follow.0 apart)

  -- events after its end
  gone : (s : State) (c : Change) (now : Option Running) → NotRuns s id run → run < s.next_run → Ran s id c (running_at s id) now
      → (x : Running) → now ≡ Some x → x.run ≢ run
  gone s (change.Step other (step.Begin call n)) now out low so x is = by (bytes_eq id other) so
    where
      by : (b : Bool)
          → cond b ((running_at s id ≡ None) × (y : Running) × (now ≡ Some y) × (y.call ≡ call) × (y.run ≡ n) × (n ≡ s.next_run)) (now ≡ running_at s id)
          → x.run ≢ run
      by true h =
          let one : x ≡ h.1 = some_is x h.1 (sym is ∙ h.2) in
          let number : x.run ≡ s.next_run = ap (λ (y : Running). y.run) one ∙ h.4 ∙ h.5 in λ same. omega (arith, number, same, low)
      by false h = out x (sym h ∙ is)
  gone s (change.Step other (step.Result n end)) now out low so x is = by (bytes_eq id other) so
    where
      by : (b : Bool) → cond b ((y : Running) × (running_at s id ≡ Some y) × (y.run ≡ n) × (now ≡ None)) (now ≡ running_at s id) → x.run ≢ run
      by true h = absurd (let bad : None ≡ Some x = sym h.3 ∙ is in cc)
      by false h = out x (sym h ∙ is)
  gone s change.Boot now out low so x is = absurd (let bad : None ≡ Some x = sym so ∙ is in cc)
  gone s _ now out low so x is = out x (sym so ∙ is)

  pub none_after : (s : State) (es : List Event) → AreApart s → NotRuns s id run → run < s.next_run → Follow s es
      → filter (is_of id run) (interruptions s es) ≡ []
  none_after s [] apart out low follow = refl
  none_after s (e ∷ es) apart out low follow =
      filter-append (is_of id run) (written_by s e.at e.change) (interruptions (after s e) es)
      ∙ ap₂ (λ (a b : List Notice). a ++ b) (quiet s e.at e.change apart out)
      (none_after (after s e) es (apart_kept e.at e.change s follow.0 apart)
      (gone s e.change (running_at (after s e) id) out low (ran s id e.at e.change follow.0)) (omega (arith, low)) follow.1)

  -- events without an end of it hold no boot
  no_boot : (s : State) (at : ℕ) (c : Change) → ends_run id run c ≡ false → written_by s at c ≡ []
  no_boot s at change.Boot none = absurd (false≢true (sym none))
  no_boot s at _ none = refl

  pub none_between : (s : State) (es : List Event) → has_end id run es ≡ false → interruptions s es ≡ []
  none_between s [] none = refl
  none_between s (e ∷ es) none =
      let halves = both_false (ends_run id run e.change) (has_end id run es) none in
      ap₂ (λ (a b : List Notice). a ++ b) (no_boot s e.at e.change halves.0) (none_between (after s e) es halves.1)

pub interruptions-append : (s : State) (es fs : List Event) → interruptions s (es ++ fs) ≡ interruptions s es ++ interruptions (after_all s es) fs
interruptions-append s [] fs = refl
interruptions-append s (e ∷ es) fs =
    ap (λ (l : List Notice). written_by s e.at e.change ++ l) (interruptions-append (after s e) es fs)
    ∙ sym (append_assoc (written_by s e.at e.change) (interruptions (after s e) es) (interruptions (after_all (after s e) es) fs))

-- in a lawful state running actions have runs below the next one
below_here : (s : State) (id : List ℕ) (rs : Registry)
    → AllByRecursion (λ e. IsLawfulResource s.next_call s.next_run s.clock e.1) rs
    → (x : Running) → runs_in (lookup (bytes_eq id) rs) ≡ Some x → x.run < s.next_run
below_here s id [] h x is = absurd (let bad : None ≡ Some x = is in cc)
below_here s id (e ∷ es) h x is = by (bytes_eq id e.0) is (below_here s id es h.1 x)
  where
    of_it : (o : Option Running) → IsLawfulRunning s.next_call s.next_run s.clock o → o ≡ Some x → x.run < s.next_run
    of_it None lawful is = absurd (let bad : None ≡ Some x = is in cc)
    of_it (Some y) lawful is = subst (λ (z : Running). z.run < s.next_run) (some_is y x is) lawful.3

    by : (b : Bool) → runs_in (cond b (Some e.1) (lookup (bytes_eq id) es)) ≡ Some x
        → (runs_in (lookup (bytes_eq id) es) ≡ Some x → x.run < s.next_run) → x.run < s.next_run
    by true is rest = of_it e.1.history.running h.0.running is
    by false is rest = rest is

reported_boot : (s : State) (e : Event) → e.change ≡ change.Boot → written_by s e.at e.change ≡ interrupted s e.at
reported_boot s e is = ap (written_by s e.at) is

quiet_boot : (s : State) (e : Event) (id : List ℕ) → ChangeApplies s e.change → e.change ≡ change.Boot → running_at (after s e) id ≡ None
quiet_boot s e id applies is = subst (λ (c : Change). Ran s id c (running_at s id) (running_at (after s e) id)) is (ran s id e.at e.change applies)

-- a run without an end before a boot is reported by it, and by no other
pub interrupted_once : (s : State) (es : List Event) → IsLawfulState s → Follow s es → InterruptedOnce s es
interrupted_once s es lawful follow before between later begin boot id call run is begins boots none =
    let mine : List Notice → List Notice = filter (is_of id run) in
    let t = after_all s before in
    let tail : List Event = begin ∷ (between ++ boot ∷ later) in
    let all : Follow s (before ++ tail) = subst (Follow s) is follow in
    let following = follow_after s before tail all in
    let one = begun_so t begin id call run following.0 begins in
    let u = after t begin in
    let going = follow_first u between (boot ∷ later) following.1 in
    let v = after_all u between in
    let at_boot = follow_after u between (boot ∷ later) following.1 in
    let crash = stays id run u between one.1 going one.2 one.4 none in
    let apart : AreApart t = apart_all id run s before (follow_first s before tail all) lawful.ids in
    let apart_u : AreApart u = apart_kept begin.at begin.change t following.0 apart in
    let apart_v : AreApart v = apart_all id run u between going apart_u in
    let w = after v boot in
    let low : run < w.next_run = low_so t begin between boot id run one.5 begins in
    let first : mine (interruptions s before) ≡ [] =
    none_before id run s before lawful.ids (below_here s id s.resources lawful.resources) (follow_first s before tail all)
    (let next = one.5 in omega (arith, next)) in
    let here : mine (written_by t begin.at begin.change) ≡ [] = quiet id run t begin.at begin.change apart
    (λ x runs. absurd (let bad : None ≡ Some x = sym one.0 ∙ runs in cc)) in
    let middle : mine (interruptions u between) ≡ [] = ap mine (none_between id run u between none) in
    let reported : mine (written_by v boot.at boot.change) ≡ interruption id boot.at one.1 ∷ [] =
    ap mine (reported_boot v boot boots) ∙ reported_of_it id run boot.at v.resources apart_v
    ∙ ap (reported_one id run boot.at) crash ∙ reported_once id run boot.at one.1 one.4 in
    let last : mine (interruptions w later) ≡ [] =
    none_after id run w later (apart_kept boot.at boot.change v at_boot.0 apart_v)
    (λ x runs. absurd (let bad : None ≡ Some x = sym (quiet_boot v boot id at_boot.0 boots) ∙ runs in cc)) low at_boot.1 in
    let spread : mine (interruptions s es) ≡ mine (interruptions s before) ++ (mine (written_by t begin.at begin.change)
    ++ (mine (interruptions u between) ++ (mine (written_by v boot.at boot.change) ++ mine (interruptions w later)))) =
    ap (λ (l : List Event). mine (interruptions s l)) is
    ∙ ap mine (interruptions-append s before tail)
    ∙ filter-append (is_of id run) (interruptions s before) (interruptions t tail)
    ∙ ap (λ (l : List Notice). mine (interruptions s before) ++ l)
    (filter-append (is_of id run) (written_by t begin.at begin.change) (interruptions u (between ++ boot ∷ later))
    ∙ ap (λ (l : List Notice). mine (written_by t begin.at begin.change) ++ l)
    (ap mine (interruptions-append u between (boot ∷ later))
    ∙ filter-append (is_of id run) (interruptions u between) (interruptions v (boot ∷ later))
    ∙ ap (λ (l : List Notice). mine (interruptions u between) ++ l)
    (filter-append (is_of id run) (written_by v boot.at boot.change) (interruptions w later)))) in (
      one.1,
      one.3,
      one.4,
      spread ∙ joined (mine (interruptions s before)) (mine (written_by t begin.at begin.change)) (mine (interruptions u between))
          (mine (written_by v boot.at boot.change)) (mine (interruptions w later)) (interruption id boot.at one.1) first here middle reported last,
    )
  where
    joined : (a b c d e : List Notice) (n : Notice) → a ≡ [] → b ≡ [] → c ≡ [] → d ≡ n ∷ [] → e ≡ []
        → a ++ (b ++ (c ++ (d ++ e))) ≡ n ∷ []
    joined a b c d e n a_is b_is c_is d_is e_is = rw (a_is, b_is, c_is, d_is, e_is) refl

    low_so : (t : State) (begin : Event) (between : List Event) (boot : Event) (id : List ℕ) (run : ℕ) → run ≡ t.next_run
        → begin.change ≡ change.Step id (step.Begin call run) → run < (after (after_all (after t begin) between) boot).next_run
    low_so t begin between boot id run next begins =
        let draws : runs_drawn begin.change ≡ 1 = ap runs_drawn begins in
        let up = grows id run (after t begin) between in
        omega (arith, next, draws, up)
