-- The counts with one more run, and without the runs of a resource.
use Rattle.std.proofs.Common.{◌≡◌, ℕ, ◌+◌, min, Bool, true, false, cond, not, ◌&&◌, List, [], ◌∷◌, ◌++◌, Option, Some, None, refl, sym, ap, ◌∙◌, zero-add, arith}
use Rattle.std.specs.Prelude.{count_by, unwrap_or}
use Rattle.std.specs.Map.{lookup}
use Rattle.std.specs.Str.{bytes_eq}
use Rattle.std.proofs.lemmas.Bool.{false≢true, false_from_ne_true}
use Rattle.std.proofs.lemmas.List.Sums.{sum_by-cons, sum_by_push}
use Rattle.std.proofs.lemmas.Slice.Eq.{bytes_eq-Decides}
use Rattle.ocf_types.specs.Lemmas.{both}
use Rattle.resource_status.specs.Counts.{Tallies, count_at, failures_of, greatest, no_runs, one_more, runs_of, tally}
use Rattle.resource_status.specs.Runs.{Ran, ran_as, without}
use Rattle.resource_status.specs.declared.count.RunCount.{RunCount}

same_id : (a b : List ℕ) → bytes_eq a b ≡ true → a ≡ b
same_id a b is = (bytes_eq-Decides a b).0 is

own_id : (a : List ℕ) → bytes_eq a a ≡ true
own_id a = (bytes_eq-Decides a a).1 refl

-- a failing test of ids also fails the other way round
differ : (a b : List ℕ) → bytes_eq a b ≡ false → bytes_eq b a ≡ false
differ a b apart =
    false_from_ne_true (bytes_eq b a) (λ e. absurd (false≢true (sym apart ∙ (bytes_eq-Decides a b).1 (sym (same_id b a e)))))

-- counts up to the greatest one
capped_more : (most n k : ℕ) → min (n + k) most ≡ min (min n most + k) most
capped_more most n k = omega arith

no_more : (n : ℕ) → n + 0 ≡ n
no_more n = omega arith

module _ (id : List ℕ) (failed : Bool) (runs : List Ran) where
  abbrev more : List Ran
  more = runs ++ ran_as id failed ∷ []

  -- the counts of the resource, and of any other
  runs_more : (q : List ℕ) (is : Bool) → bytes_eq q id ≡ is → count_by (λ r. bytes_eq q r.id) more ≡ count_by (λ r. bytes_eq q r.id) runs + cond is 1 0
  runs_more q is at =
      sum_by_push (λ (r : Ran). cond (bytes_eq q r.id) 1 0) runs (ran_as id failed)
      ∙ ap (λ b. count_by (λ (r : Ran). bytes_eq q r.id) runs + cond b 1 0) at

  failures_more : (q : List ℕ) (is : Bool) → bytes_eq q id ≡ is
      → count_by (λ r. bytes_eq q r.id && r.failed) more ≡ count_by (λ r. bytes_eq q r.id && r.failed) runs + cond (is && failed) 1 0
  failures_more q is at =
      sum_by_push (λ (r : Ran). cond (bytes_eq q r.id && r.failed) 1 0) runs (ran_as id failed)
      ∙ ap (λ b. count_by (λ (r : Ran). bytes_eq q r.id && r.failed) runs + cond (b && failed) 1 0) at

  tally_own : tally more id ≡ one_more failed (tally runs id)
  tally_own =
      let n = count_by (λ (r : Ran). bytes_eq id r.id) runs in
      let m = count_by (λ (r : Ran). bytes_eq id r.id && r.failed) runs in
      let first : runs_of id more ≡ min (runs_of id runs + 1) greatest =
      ap (λ (k : ℕ). min k greatest) (runs_more id true (own_id id)) ∙ capped_more greatest n 1 in
      let second : failures_of id more ≡ min (failures_of id runs + cond failed 1 0) greatest =
      ap (λ (k : ℕ). min k greatest) (failures_more id true (own_id id)) ∙ capped_more greatest m (cond failed 1 0) in
      λ i. record { runs = first i; failures = second i }

  tally_other : (q : List ℕ) → bytes_eq q id ≡ false → tally more q ≡ tally runs q
  tally_other q apart =
      let n = count_by (λ (r : Ran). bytes_eq q r.id) runs in
      let m = count_by (λ (r : Ran). bytes_eq q r.id && r.failed) runs in
      let first : runs_of q more ≡ runs_of q runs =
      ap (λ (k : ℕ). min k greatest) (runs_more q false apart ∙ no_more n) in
      let second : failures_of q more ≡ failures_of q runs =
      ap (λ (k : ℕ). min k greatest) (failures_more q false apart ∙ no_more m) in
      λ i. record { runs = first i; failures = second i }

  -- counts in which those of the resource have one more run
  pub tallies_more : (old new : List (List ℕ × RunCount)) → Tallies old runs
      → ((q : List ℕ) → lookup (bytes_eq q) new ≡ cond (bytes_eq id q) (Some (one_more failed (count_at old id))) (lookup (bytes_eq q) old))
      → Tallies new more
  tallies_more old new were updates q = by (bytes_eq id q) refl
    where
      by : (b : Bool) → bytes_eq id q ≡ b → count_at new q ≡ tally more q
      by true is =
          ap (λ (o : Option RunCount). unwrap_or o no_runs)
          (updates q ∙ ap (λ b. cond b (Some (one_more failed (count_at old id))) (lookup (bytes_eq q) old)) is)
          ∙ ap (one_more failed) (were id) ∙ sym tally_own ∙ ap (tally more) (same_id id q is)
      by false is =
          ap (λ (o : Option RunCount). unwrap_or o no_runs)
          (updates q ∙ ap (λ b. cond b (Some (one_more failed (count_at old id))) (lookup (bytes_eq q) old)) is)
          ∙ were q ∙ sym (tally_other q (differ id q is))

module _ (id : List ℕ) (p : Ran → Bool) where
  count_cons : (r : Ran) (rs : List Ran) (is : Bool) → p r ≡ is → count_by p (r ∷ rs) ≡ cond is 1 0 + count_by p rs
  count_cons r rs is at = sum_by-cons (λ (x : Ran). cond (p x) 1 0) r rs ∙ ap (λ b. cond b 1 0 + count_by p rs) at

  -- without the runs of a resource none of them is counted
  none_by : (r : Ran) (rs : List Ran) (b : Bool) → bytes_eq id r.id ≡ b → (p r ≡ true → bytes_eq id r.id ≡ true) → count_by p (without id rs) ≡ 0
      → count_by p (cond (not b) (r ∷ without id rs) (without id rs)) ≡ 0
  none_by r rs true is own rest = rest
  none_by r rs false is own rest =
      count_cons r (without id rs) false (false_from_ne_true (p r) (λ e. absurd (false≢true (sym is ∙ own e))))
      ∙ ap (λ (k : ℕ). 0 + k) rest

  none_left : ((r : Ran) → p r ≡ true → bytes_eq id r.id ≡ true) → (rs : List Ran) → count_by p (without id rs) ≡ 0
  none_left own [] = refl
  none_left own (r ∷ rs) = none_by r rs (bytes_eq id r.id) refl (own r) (none_left own rs)

  -- the runs of other resources are still counted
  all_by : (r : Ran) (rs : List Ran) (b : Bool) → bytes_eq id r.id ≡ b → (p r ≡ true → bytes_eq id r.id ≡ false)
      → count_by p (without id rs) ≡ count_by p rs → count_by p (cond (not b) (r ∷ without id rs) (without id rs)) ≡ count_by p (r ∷ rs)
  all_by r rs true is others rest =
      let apart : p r ≡ false = false_from_ne_true (p r) (λ e. absurd (false≢true (sym (others e) ∙ is))) in
      rest ∙ sym (count_cons r rs false apart ∙ zero-add (count_by p rs))
  all_by r rs false is others rest =
      count_cons r (without id rs) (p r) refl ∙ ap (λ (k : ℕ). cond (p r) 1 0 + k) rest ∙ sym (count_cons r rs (p r) refl)

  all_left : ((r : Ran) → p r ≡ true → bytes_eq id r.id ≡ false) → (rs : List Ran) → count_by p (without id rs) ≡ count_by p rs
  all_left others [] = refl
  all_left others (r ∷ rs) = all_by r rs (bytes_eq id r.id) refl (others r) (all_left others rs)

-- counts from which those of a resource are removed
pub tallies_without : (id : List ℕ) (runs : List Ran) (old new : List (List ℕ × RunCount)) → Tallies old runs
    → ((q : List ℕ) → lookup (bytes_eq q) new ≡ cond (bytes_eq id q) None (lookup (bytes_eq q) old)) → Tallies new (without id runs)
tallies_without id runs old new were updates q = by (bytes_eq id q) refl
  where
    by : (b : Bool) → bytes_eq id q ≡ b → count_at new q ≡ tally (without id runs) q
    by true is =
        let same = same_id id q is in
        let own : (r : Ran) → bytes_eq q r.id ≡ true → bytes_eq id r.id ≡ true = λ r e. ap (λ (k : List ℕ). bytes_eq k r.id) same ∙ e in
        let first : count_by (λ r. bytes_eq q r.id) (without id runs) ≡ 0 = none_left id (λ r. bytes_eq q r.id) own runs in
        let second : count_by (λ r. bytes_eq q r.id && r.failed) (without id runs) ≡ 0 =
        none_left id (λ r. bytes_eq q r.id && r.failed) (λ r e. own r (both (bytes_eq q r.id) r.failed e).0) runs in
        let none : tally (without id runs) q ≡ no_runs = λ i. record { runs = min (first i) greatest; failures = min (second i) greatest } in
        ap (λ (o : Option RunCount). unwrap_or o no_runs) (updates q ∙ ap (λ b. cond b None (lookup (bytes_eq q) old)) is) ∙ sym none
    by false is =
        let others : (r : Ran) → bytes_eq q r.id ≡ true → bytes_eq id r.id ≡ false =
        λ r e. ap (bytes_eq id) (sym (same_id q r.id e)) ∙ is in
        let first : count_by (λ r. bytes_eq q r.id) (without id runs) ≡ count_by (λ r. bytes_eq q r.id) runs =
        all_left id (λ r. bytes_eq q r.id) others runs in
        let second : count_by (λ r. bytes_eq q r.id && r.failed) (without id runs) ≡ count_by (λ r. bytes_eq q r.id && r.failed) runs =
        all_left id (λ r. bytes_eq q r.id && r.failed) (λ r e. others r (both (bytes_eq q r.id) r.failed e).0) runs in
        let left : tally (without id runs) q ≡ tally runs q = λ i. record { runs = min (first i) greatest; failures = min (second i) greatest } in
        ap (λ (o : Option RunCount). unwrap_or o no_runs) (updates q ∙ ap (λ b. cond b None (lookup (bytes_eq q) old)) is) ∙ were q ∙ sym left

-- the map after an insert for which it was grown
pub inserted : (q id key : List ℕ) (old mid new : List (List ℕ × RunCount)) (count value : RunCount) → mid ≡ old → key ≡ id → value ≡ count
    → lookup (bytes_eq q) new ≡ cond (bytes_eq key q) (Some value) (lookup (bytes_eq q) mid)
    → lookup (bytes_eq q) new ≡ cond (bytes_eq id q) (Some count) (lookup (bytes_eq q) old)
inserted q id key old mid new count value grown same counted is =
    is ∙ (λ i. cond (bytes_eq (same i) q) (Some (counted i)) (lookup (bytes_eq q) (grown i)))
