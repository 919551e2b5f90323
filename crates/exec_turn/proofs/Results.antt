-- Results of running actions: they may be recorded, and after each of them one action less runs.
use Rattle.std.proofs.Common.{◌≡◌, ℕ, ◌≤◌, Bool, true, false, cond, List, [], ◌∷◌, ◌++◌, map, length, Option, Some, None, IsSomeAnd, IsTrue, refl, sym, ◌∙◌, ap, subst, arith, inl, ◌+◌, ◌*◌, ◌<◌, nat_eq, append_assoc, length-append}
use Rattle.std.specs.List.{AllByRecursion, IsDistinct, flat_map, Contains}
use Rattle.std.specs.Map.{keys_of, lookup}
use Rattle.std.specs.Str.{bytes_eq}
use Rattle.std.proofs.lemmas.Map.Keys.{IsDistinct-head, IsDistinct-tail, IsDistinct-IsPermutation}
use Rattle.ocf_types.specs.Lawful.{IsId, IsRunEnd}
use Rattle.ocf_model.specs.LawfulState.{IsLawfulResource, IsLawfulRunning, IsLawfulState}
use Rattle.ocf_types.specs.Numbers.{IsDrawn, IsMoment}
use Rattle.ocf_model.specs.Resource.{Resource}
use Rattle.ocf_model.specs.State.{Registry, State, after, at_id, stepped, resource_at, IsRegistration}
use Rattle.ocf_types.specs.declared.event.Step.TheVariants as step
use Rattle.ocf_types.specs.declared.operation.Running.{Running}
use Rattle.ocf_types.specs.declared.outcome.RunEnd.{RunEnd}
use Rattle.exec_ledger.specs.Actives.{Active, active, active_in, active_of, all_in, runs_of}
use Rattle.exec_turn.specs.Actives.{result_of}
use Rattle.std.specs.Option.{option_and_then}
use Rattle.std.proofs.lemmas.List.{map-append, length-map}
use Rattle.std.proofs.lemmas.List.Concat.{flat_map-append}
use Rattle.std.proofs.lemmas.Slice.Eq.{bytes_eq-Decides}
use Rattle.exec_turn.specs.Starts.{RunsUnder, AllRun}
use Rattle.std.proofs.lemmas.Bool.Decides.{nat_tests, Decides-eqb}
use Rattle.std.proofs.lemmas.List.Elements.{All-from_recursion, recursion_from_All}
use Rattle.ocf_model.specs.Applies.{Applies, StepApplies}
use Rattle.ocf_types.specs.Kinds.{Event, Step}
use Rattle.ocf_types.specs.Limits.{longest_result, resources_limit}
use Rattle.ocf_types.specs.Encoding.{encoded_event}
use Rattle.ocf_types.specs.declared.event.Change.TheVariants as change
use Rattle.store_model.specs.Batches.{AllApply, encoded_batch, are_results}
use Rattle.exec_turn.specs.AgentsLive.{AgentsLive}
use Rattle.exec_ledger.specs.Batches.{MayRecord}
use Rattle.std.proofs.lemmas.Cmp.{nat_eq_equiv}
use Rattle.exec_turn.proofs.Choosing.{own_found}
use Rattle.std.proofs.lemmas.List.Sorted.{All-permutation, IsPermutation-append_comm, IsPermutation-append_left, IsPermutation-sym, length_permutation}
use Rattle.std.specs.Prelude.{IsPermutation, ⊤}
use Rattle.std.proofs.lemmas.Bool.{false_from_ne_true}
use Rattle.ocf_model.specs.RegistryLemmas.{keys-at_id, lookup-at_id_other}
use Rattle.ocf_types.specs.Lemmas.{each_weaken}

module _ {A : Type 0} (P : A → Type 0) where
  -- a fact of two lists together holds of each
  pub each_first : (xs ys : List A) → AllByRecursion P (xs ++ ys) → AllByRecursion P xs
  each_first [] ys h = tt
  each_first (x ∷ xs) ys h = (h.0, each_first xs ys h.1)

  pub each_second : (xs ys : List A) → AllByRecursion P (xs ++ ys) → AllByRecursion P ys
  each_second [] ys h = h
  each_second (x ∷ xs) ys h = each_second xs ys h.1

  -- a fact of every element
  pub each_of_all : ((x : A) → P x) → (xs : List A) → AllByRecursion P xs
  each_of_all h [] = tt
  each_of_all h (x ∷ xs) = (h x, each_of_all h xs)

  -- a fact of each in another order
  pub each_permuted : (xs ys : List A) → IsPermutation xs ys → AllByRecursion P xs → AllByRecursion P ys
  each_permuted xs ys same h = recursion_from_All P ys (All-permutation P xs ys same (All-from_recursion P xs h))

  -- two facts of each
  pub pair_each : (Q : A → Type 0) (xs : List A) → AllByRecursion P xs → AllByRecursion Q xs → AllByRecursion (λ x. P x × Q x) xs
  pair_each Q [] h k = tt
  pair_each Q (x ∷ xs) h k = ((h.0, k.0), pair_each Q xs h.1 k.1)

pub distinct_second : {K : Type 0} (eq : K → K → Bool) (xs ys : List K) → IsDistinct eq (xs ++ ys) → IsDistinct eq ys
distinct_second eq [] ys d = d
distinct_second eq (x ∷ xs) ys d = distinct_second eq xs ys (IsDistinct-tail eq x (xs ++ ys) d)

-- numbers that differ
pub never_itself : (a b : ℕ) → nat_eq a b ≡ false → a ≡ b → ⊥
never_itself a b differ same = grind (arith, nat_tests)

pub differs : (n k : ℕ) → (n ≡ k → ⊥) → nat_eq n k ≡ false
differs n k h = false_from_ne_true _ (λ e. h ((Decides-eqb n k).0 e))

-- a fact of each running action, from one of each entry
pub each_active : (Q : List ℕ × Resource → Type 0) (P : Active → Type 0)
    → ((e : List ℕ × Resource) (x : Running) → Q e → e.1.history.running ≡ Some x → P (record { id = e.0; running = x }))
    → (rs : Registry) → AllByRecursion Q rs → AllByRecursion P (all_in rs)
each_active Q P one [] h = tt
each_active Q P one (e ∷ es) h = by e.1.history.running refl (each_active Q P one es h.1)
  where
    by : (o : Option Running) → e.1.history.running ≡ o → AllByRecursion P (all_in es) → AllByRecursion P (active_of e.0 o ++ all_in es)
    by None is rest = rest
    by (Some x) is rest = (one e x h.0 is, rest)

-- no more actions run than there are resources
pub few_active : (rs : Registry) → length (all_in rs) ≤ length rs
few_active [] = omega arith
few_active (e ∷ es) = by e.1.history.running (few_active es)
  where
    by : (o : Option Running) → length (all_in es) ≤ length es → length (active_of e.0 o ++ all_in es) ≤ length (e ∷ es)
    by None rest = omega (arith, rest)
    by (Some x) rest = omega (arith, rest)

-- each running action of a lawful state runs in the resource of its id
pub all_run : (s : State) → IsLawfulState s → AllRun s (active s)
all_run s lawful =
    each_active (λ e. resource_at s e.0 ≡ Some e.1) (λ a. RunsUnder s a.id a.running.call a.running.run)
    (λ e x here is. record {
      running = x;
      is = ap (λ (o : Option Resource). option_and_then (λ r. r.history.running) o) here ∙ is;
      call_is = refl;
      run_is = refl;
    })
    s.resources (own_found s.resources lawful.ids)

-- the resource of a running action
runs_there : (o : Option Resource) (x : Running) → option_and_then (λ r. r.history.running) o ≡ Some x
    → (r : Resource) × (o ≡ Some r) × (r.history.running ≡ Some x)
runs_there None x is = absurd (let none : None ≡ Some x = is in cc)
runs_there (Some r) x is = (r, refl, is)

-- facts of a running action: its resource has an id, and its run is drawn
abbrev pub IsNamed : Active → Type 0
IsNamed a = IsId a.id × IsDrawn a.running.run

lookup_holds : (P : List ℕ × Resource → Type 0) (id : List ℕ) (r : Resource) (rs : Registry) → AllByRecursion P rs
    → lookup (bytes_eq id) rs ≡ Some r → P (id, r)
lookup_holds P id r [] all at = absurd (let none : None ≡ Some r = at in cc)
lookup_holds P id r (e ∷ es) all at = by (bytes_eq id e.0) refl (lookup_holds P id r es all.1)
  where
    by : (b : Bool) → bytes_eq id e.0 ≡ b → (lookup (bytes_eq id) es ≡ Some r → P (id, r)) → P (id, r)
    by true same rest =
        let here : Some e.1 ≡ Some r = rw same at at in
        let value : e.1 ≡ r = cc in
        let key : e.0 ≡ id = sym ((bytes_eq-Decides id e.0).0 same) in
        subst (λ (k : List ℕ). P (k, r)) key (subst (λ (v : Resource). P (e.0, v)) value all.0)
    by false other rest = rest (rw other at at)

-- they hold in a lawful state
lemma_known : (s : State) (a : Active) → IsLawfulState s → RunsUnder s a.id a.running.call a.running.run
    → IsNamed a × (a.running.run < s.next_run)
lemma_known s a lawful runs =
    let there = runs_there (resource_at s a.id) runs.running runs.is in
    let id : IsId a.id = lookup_holds (λ e. IsId e.0) a.id there.0 s.resources lawful.named there.1 in
    let resource = lookup_holds
    (λ e. IsLawfulResource s.next_call s.next_run s.clock e.1) a.id there.0 s.resources lawful.resources there.1 in
    let running : IsLawfulRunning s.next_call s.next_run s.clock (Some runs.running) = subst
    (λ (o : Option Running). IsLawfulRunning s.next_call s.next_run s.clock o) there.2 resource.running in
    ((id, subst IsDrawn runs.run_is running.2), subst (λ n. n < s.next_run) runs.run_is running.3)

-- the runs of running actions are below the next run number
pub runs_below : (s : State) (all : List Active) → IsLawfulState s → AllRun s all → AllByRecursion (λ n. n < s.next_run) (runs_of all)
runs_below s [] lawful run = tt
runs_below s (a ∷ rest) lawful run = ((lemma_known s a lawful run.0).1, runs_below s rest lawful run.1)

-- no key is the id
abbrev IsAbsent : List ℕ → Registry → Type 0
IsAbsent id rs = AllByRecursion (λ k. bytes_eq id k ≡ false) (keys_of rs)

absent_kept : (id : List ℕ) (f : Resource → Resource) (rs : Registry) → IsAbsent id rs → at_id id f rs ≡ rs
absent_kept id f [] absent = refl
absent_kept id f (e ∷ es) absent =
    ap (λ (b : Bool). (e.0, cond b (f e.1) e.1) ∷ at_id id f es) absent.0 ∙ ap (λ (l : Registry). e ∷ l) (absent_kept id f es absent.1)

-- the entry of an id between the others, and all entries after a change of it
record Between (id : List ℕ) (f : Resource → Resource) (r : Resource) (rs : Registry) : Type 0 where
  before : Registry
  following : Registry
  is : rs ≡ before ++ (id, r) ∷ following
  changed : at_id id f rs ≡ before ++ (id, f r) ∷ following

between : (id : List ℕ) (f : Resource → Resource) (r : Resource) (rs : Registry) → IsDistinct bytes_eq (keys_of rs)
    → lookup (bytes_eq id) rs ≡ Some r → Between id f r rs
between id f r [] distinct at = absurd (let none : None ≡ Some r = at in cc)
between id f r (e ∷ es) distinct at = by (bytes_eq id e.0) refl (between id f r es (IsDistinct-tail bytes_eq e.0 (keys_of es) distinct))
  where
    by : (b : Bool) → bytes_eq id e.0 ≡ b → (lookup (bytes_eq id) es ≡ Some r → Between id f r es) → Between id f r (e ∷ es)
    by true same rest =
        let here : Some e.1 ≡ Some r = rw same at at in
        let value : e.1 ≡ r = cc in
        let key : e.0 ≡ id = sym ((bytes_eq-Decides id e.0).0 same) in
        let absent : IsAbsent id es = subst (λ (k : List ℕ). IsAbsent k es) key (IsDistinct-head bytes_eq e.0 (keys_of es) distinct) in
        record {
          before = [];
          following = es;
          is = ap (λ (k : List ℕ). (k, e.1) ∷ es) key ∙ ap (λ (v : Resource). (id, v) ∷ es) value;
          changed =
              rw same (ap (λ (k : List ℕ). (k, f e.1) ∷ at_id id f es) key ∙ ap (λ (v : Resource). (id, f v) ∷ at_id id f es) value
              ∙ ap (λ (l : Registry). (id, f r) ∷ l) (absent_kept id f es absent));
        }
    by false other rest =
        let found = rest (rw other at at) in
        record {
          before = e ∷ found.before;
          following = found.following;
          is = ap (λ (l : Registry). e ∷ l) found.is;
          changed = rw other (ap (λ (l : Registry). e ∷ l) found.changed);
        }

abbrev runs_in : Registry → List ℕ
runs_in rs = runs_of (all_in rs)

-- the runs of one entry first
entry_first : (before following : Registry) (e : List ℕ × Resource)
    → IsPermutation (runs_in (before ++ e ∷ following)) (runs_of (active_in e) ++ (runs_in before ++ runs_in following))
entry_first before following e =
    let x = runs_of (active_in e) in
    let split : runs_in (before ++ e ∷ following) ≡ runs_in before ++ (x ++ runs_in following) = ap runs_of (flat_map-append active_in before (e ∷ following))
    ∙ map-append (λ (a : Active). a.running.run) (all_in before) (active_in e ++ all_in following)
    ∙ ap (λ (l : List ℕ). runs_in before ++ l) (map-append (λ (a : Active). a.running.run) (active_in e) (all_in following)) in
    subst (λ (l : List ℕ). IsPermutation l (x ++ (runs_in before ++ runs_in following)))
    (append_assoc (runs_in before) x (runs_in following) ∙ sym split)
    (subst (λ (l : List ℕ). IsPermutation ((runs_in before ++ x) ++ runs_in following) l) (append_assoc x (runs_in before) (runs_in following))
    (IsPermutation-append_left (runs_in following) (runs_in before ++ x) (x ++ runs_in before) (IsPermutation-append_comm (runs_in before) x)))

-- the runs of one resource and of all others, before a step of it and after it
pub stepped_runs : (s : State) (at : ℕ) (id : List ℕ) (what : Step) (r : Resource) → IsDistinct bytes_eq (keys_of s.resources)
    → resource_at s id ≡ Some r
    → (others : List ℕ) × IsPermutation (runs_of (active s)) (runs_of (active_in (id, r)) ++ others)
    × IsPermutation (runs_of (active (after s (record { at = at; change = change.Step id what }))))
    (runs_of (active_in (id, stepped at what r)) ++ others)
stepped_runs s at id what r distinct here =
    let found = between id (stepped at what) r s.resources distinct here in
    let others = runs_in found.before ++ runs_in found.following in (
      others,
      subst (λ (l : Registry). IsPermutation (runs_in l) (runs_of (active_in (id, r)) ++ others)) (sym found.is)
          (entry_first found.before found.following (id, r)),
      subst (λ (l : Registry). IsPermutation (runs_in l) (runs_of (active_in (id, stepped at what r)) ++ others)) (sym found.changed)
          (entry_first found.before found.following (id, stepped at what r)),
    )

-- after a result each other action has its agent process alive, where these live on
pub agents_result : (s : State) (at : ℕ) (a : Active) (end : RunEnd) (live later : List ℕ) → IsDistinct bytes_eq (keys_of s.resources)
    → RunsUnder s a.id a.running.call a.running.run
    → ((n : ℕ) → nat_eq a.running.run n ≡ false → Contains live n → Contains later n)
    → (Contains live a.running.run → length later + 1 ≤ length live)
    → AgentsLive s live → AgentsLive (after s (result_of at a end)) later
agents_result s at a end live later distinct runs on fewer h =
    let run = a.running.run in
    let t = after s (result_of at a end) in
    let there = runs_there (resource_at s a.id) runs.running runs.is in
    let stepped_on = stepped_runs s at a.id (step.Result run end) there.0 distinct there.1 in
    let others = stepped_on.0 in
    let here : runs_of (active_in (a.id, there.0)) ≡ run ∷ [] = ap (λ (o : Option Running). runs_of (active_of a.id o)) there.2
    ∙ ap (λ (n : ℕ). n ∷ []) runs.run_is in
    let was : IsPermutation (runs_of (active s)) (run ∷ others) =
    subst (λ (l : List ℕ). IsPermutation (runs_of (active s)) (l ++ others)) here stepped_on.1 in
    let back : IsPermutation others (runs_of (active t)) = IsPermutation-sym (runs_of (active t)) others stepped_on.2 in
    let apart = IsDistinct-IsPermutation nat_eq nat_eq_equiv.symm (runs_of (active s)) (run ∷ others) was h.distinct in
    let lives = each_permuted (Contains live) (runs_of (active s)) (run ∷ others) was h.each_lives in
    let size = length_permutation (runs_of (active s)) (run ∷ others) was in
    let size2 = length_permutation others (runs_of (active t)) back in
    record {
      each_lives = each_permuted (Contains later) others (runs_of (active t)) back
          (each_weaken (λ n. Contains live n × (nat_eq run n ≡ false)) (Contains later) (λ n g. on n g.1 g.0) others
          (pair_each (Contains live) (λ n. nat_eq run n ≡ false) others lives.1 (IsDistinct-head nat_eq run others apart)));
      distinct = IsDistinct-IsPermutation nat_eq nat_eq_equiv.symm others (runs_of (active t)) back (IsDistinct-tail nat_eq run others apart);
      few = omega (
        arith,
        h.few,
        fewer lives.0,
        size,
        size2,
        length-map (active s) (λ (x : Active). x.running.run),
        length-map (active t) (λ (x : Active). x.running.run),
      );
    }

pub same_keys : (s : State) (at : ℕ) (a : Active) (end : RunEnd) → IsDistinct bytes_eq (keys_of s.resources)
    → IsDistinct bytes_eq (keys_of (after s (result_of at a end)).resources)
same_keys s at a end distinct =
    subst (IsDistinct bytes_eq) (sym (keys-at_id a.id (stepped at (step.Result a.running.run end)) s.resources)) distinct

-- the actions of other runs run on
pub run_on : (s : State) (at : ℕ) (a : Active) (end : RunEnd) (rest : List Active) → RunsUnder s a.id a.running.call a.running.run
    → AllByRecursion (λ n. nat_eq a.running.run n ≡ false) (runs_of rest) → AllRun s rest → AllRun (after s (result_of at a end)) rest
run_on s at a end [] runs apart all = tt
run_on s at a end (b ∷ rest) runs apart all =
    let f = stepped at (step.Result a.running.run end) in
    let there = all.0 in
    let differ : a.id ≡ b.id → ⊥ = λ same.
    let both : Some runs.running ≡ Some there.running = sym runs.is
    ∙ ap (λ (id : List ℕ). option_and_then (λ r. r.history.running) (resource_at s id)) same ∙ there.is in
    let running : runs.running ≡ there.running = cc in
    never_itself a.running.run b.running.run apart.0 (sym runs.run_is ∙ ap (λ (x : Running). x.run) running ∙ there.run_is) in (
      record {
        running = there.running;
        is = ap (λ (o : Option Resource). option_and_then (λ r. r.history.running) o) (lookup-at_id_other a.id b.id f s.resources differ)
            ∙ there.is;
        call_is = there.call_is;
        run_is = there.run_is;
      },
      run_on s at a end rest runs apart.1 all.1,
    )

-- the greatest length of a result: the law `lemma_lengths` of ocf_types
abbrev pub ResultsFit : Type 0
ResultsFit =
    (at run : ℕ) (id : List ℕ) (end : RunEnd) → IsId id
    → length (encoded_event (record { at = at; change = change.Step id (step.Result run end) })) ≤ longest_result

one_applies : ResultsFit → (s : State) (at : ℕ) (a : Active) (end : RunEnd) → IsMoment at → s.clock ≤ at → IsNamed a → IsRunEnd end
    → RunsUnder s a.id a.running.call a.running.run → Applies s (result_of at a end)
one_applies fit s at a end moment later named end_is runs =
    let there = runs_there (resource_at s a.id) runs.running runs.is in
    let run = a.running.run in
    record {
      encoded = record {
        lawful = record { at = moment; change = (named.0, (named.1, end_is)) };
        short = omega (arith, fit at run a.id end named.0);
      };
      later = later;
      change =
          subst (λ (o : Option Resource). IsSomeAnd o (StepApplies s.next_call s.next_run (step.Result run end))) (sym there.1)
          (subst (λ (o : Option Running). IsSomeAnd o (λ x. x.run ≡ run)) (sym there.2) runs.run_is);
    }

-- at most one end
abbrev pub AtMostOne : List RunEnd → Type 0
AtMostOne [] = ⊤
AtMostOne (e ∷ []) = ⊤
AtMostOne (e ∷ f ∷ es) = ⊥

by_end : (P : List RunEnd → Type 0) (es : List RunEnd) → AtMostOne es → P [] → ((e : RunEnd) → P (e ∷ [])) → P es
by_end P [] few none one = none
by_end P (e ∷ []) few none one = one e
by_end P (e ∷ f ∷ es) few none one = absurd few

-- Results, at most one of each of these: of polls, or of refused starts.
module _ {X : Type 0} (who : X → Active) (ends : X → List RunEnd) (one : (x : X) → AtMostOne (ends x)) where
  abbrev ended : ℕ → List X → List Event
  ended at xs = flat_map (λ x. map (result_of at (who x)) (ends x)) xs

  abbrev EndsRun : X → Type 0
  EndsRun x = IsNamed (who x) × AllByRecursion IsRunEnd (ends x)

  -- a fact of each result
  pub each_ended : (P : Event → Type 0) (at : ℕ) → ((x : X) (e : RunEnd) → P (result_of at (who x) e)) → (xs : List X)
      → AllByRecursion P (ended at xs)
  each_ended P at h [] = tt
  each_ended P at h (x ∷ xs) =
      let rest = each_ended P at h xs in
      by_end (λ es. AllByRecursion P (map (result_of at (who x)) es ++ ended at xs)) (ends x) (one x) rest (λ e. (h x e, rest))

  -- they apply one after the other, they are short, and they are results
  ended_apply : ResultsFit → (s : State) (at : ℕ) (xs : List X) → IsMoment at → s.clock ≤ at → AllByRecursion EndsRun xs
      → AllRun s (map who xs) → IsDistinct nat_eq (runs_of (map who xs)) → AllApply s (ended at xs)
  ended_apply fit s at [] moment later can run apart = tt
  ended_apply fit s at (x ∷ xs) moment later can run apart =
      let a = who x in
      let others = runs_of (map who xs) in
      let rest = IsDistinct-tail nat_eq a.running.run others apart in
      by_end (λ es. AllByRecursion IsRunEnd es → AllApply s (map (result_of at a) es ++ ended at xs)) (ends x) (one x)
      (λ is. ended_apply fit s at xs moment later can.1 run.1 rest)
      (λ e is. (
        one_applies fit s at a e moment later can.0.0 is.0 run.0,
        ended_apply fit (after s (result_of at a e)) at xs moment (omega arith) can.1
            (run_on s at a e (map who xs) run.0 (IsDistinct-head nat_eq a.running.run others apart) run.1) rest,
      ))
      can.0.1

  ended_fit : ResultsFit → (at : ℕ) (xs : List X) → AllByRecursion EndsRun xs
      → length (encoded_batch (ended at xs)) ≤ longest_result * length xs
  ended_fit fit at [] can = omega arith
  ended_fit fit at (x ∷ xs) can =
      let rest = ended_fit fit at xs can.1 in
      by_end (λ es. length (encoded_batch (map (result_of at (who x)) es ++ ended at xs)) ≤ longest_result * length (x ∷ xs)) (ends x) (one x)
      (omega (arith, rest))
      (λ e. omega (
        arith,
        rest,
        fit at (who x).running.run (who x).id e can.0.0.0,
        length-append (encoded_event (result_of at (who x) e)) (encoded_batch (ended at xs)),
      ))

  ended_results : (at : ℕ) (xs : List X) → IsTrue (are_results (ended at xs))
  ended_results at [] = refl
  ended_results at (x ∷ xs) =
      let rest = ended_results at xs in
      by_end (λ es. IsTrue (are_results (map (result_of at (who x)) es ++ ended at xs))) (ends x) (one x) rest (λ e. rest)

  can_end : (s : State) (xs : List X) → IsLawfulState s → AllRun s (map who xs) → AllByRecursion (λ x. AllByRecursion IsRunEnd (ends x)) xs
      → AllByRecursion EndsRun xs
  can_end s [] lawful run are = tt
  can_end s (x ∷ xs) lawful run are = (((lemma_known s (who x) lawful run.0).0, are.0), can_end s xs lawful run.1 are.1)

  -- so the batch of them may be recorded, wherever the tail is
  pub ended_may_record : ResultsFit → (s : State) (tail at : ℕ) (xs : List X) → IsLawfulState s → s.clock ≤ at → IsMoment at
      → length xs ≤ resources_limit → AllRun s (map who xs) → IsDistinct nat_eq (runs_of (map who xs))
      → AllByRecursion (λ x. AllByRecursion IsRunEnd (ends x)) xs → MayRecord s tail (ended at xs)
  ended_may_record fit s tail at xs lawful later moment few run apart are =
      let can = can_end s xs lawful run are in record {
        apply = ended_apply fit s at xs moment later can run apart;
        fits = omega (arith, ended_fit fit at xs can, few);
        plain = each_ended (λ e. IsRegistration e.change → ⊥) at (λ x e h. h) xs;
        reserve = inl (ended_results at xs);
      }
