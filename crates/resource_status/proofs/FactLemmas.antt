-- What facts hold of each resource, with one more fact.
use Rattle.std.proofs.Common.{◌≡◌, ℕ, ◌+◌, Bool, true, false, cond, List, [], ◌∷◌, ◌++◌, Option, Some, None, refl, sym, ap, ◌∙◌}
use Rattle.std.specs.Prelude.{fold, unwrap_or, option_and_then, option_map, option_to_list}
use Rattle.std.specs.Map.{lookup}
use Rattle.std.specs.Str.{bytes_eq}
use Rattle.std.proofs.lemmas.Slice.Eq.{bytes_eq-Decides}
use Rattle.ocf_types.specs.Kinds.{Event}
use Rattle.ocf_model.specs.Resource.{Resource, ended_of}
use Rattle.ocf_model.specs.State.{State, after, after_all}
use Rattle.ocf_types.specs.declared.operation.Ended.{Ended as Result}
use Rattle.ocf_types.specs.declared.operation.Running.{Running}
use Rattle.ocf_types.specs.declared.outcome.Outcome.{Outcome}
use Rattle.resource_status.specs.Runs.{end_of}
use Rattle.resource_status.specs.Facts.{FactOf, IsRecordOf, ended_facts, fact_of, facts_by, facts_since, held_of, none_recorded, recorded_at, taken, taken_of}
use Rattle.resource_status.specs.declared.condition.Recorded.{Recorded}
use Rattle.resource_status.specs.declared.facts.Fact.{Fact}
use Rattle.resource_status.specs.declared.facts.Fact.TheVariants.{Ended}

same_id : (a b : List ℕ) → bytes_eq a b ≡ true → a ≡ b
same_id a b is = (bytes_eq-Decides a b).0 is

fold_one : {A B : Type 0} (f : B → A → B) (xs : List A) (x : A) (b : B) → fold f b (xs ++ x ∷ []) ≡ f (fold f b xs) x
fold_one f [] x b = refl
fold_one f (y ∷ ys) x b = fold_one f ys x (f b y)

-- what facts hold after one more
pub held_more : (facts : List FactOf) (f : FactOf) (q : List ℕ) → held_of (facts ++ f ∷ []) q ≡ taken_of q (held_of facts q) f
held_more facts f q = fold_one (taken_of q) facts f none_recorded

-- a map that has taken one more fact
module _ (id : List ℕ) (fact : Fact) (facts : List FactOf) (old new : List (List ℕ × Recorded)) (were : IsRecordOf old facts) where
  abbrev next : Recorded
  next = taken (recorded_at old id) fact

  pub tells_more : ((q : List ℕ) → lookup (bytes_eq q) new ≡ cond (bytes_eq id q) (Some next) (lookup (bytes_eq q) old))
      → IsRecordOf new (facts ++ fact_of id fact ∷ [])
  tells_more updates q = by (bytes_eq id q) refl
    where
      by : (b : Bool) → bytes_eq id q ≡ b → recorded_at new q ≡ held_of (facts ++ fact_of id fact ∷ []) q
      by true is =
          ap (λ (o : Option Recorded). unwrap_or o none_recorded) (updates q ∙ ap (λ b. cond b (Some next) (lookup (bytes_eq q) old)) is)
          ∙ ap (λ (r : Recorded). taken r fact) (were id ∙ ap (held_of facts) (same_id id q is))
          ∙ sym (held_more facts (fact_of id fact) q ∙ ap (λ b. cond b (taken (held_of facts q) fact) (held_of facts q)) is)
      by false is =
          ap (λ (o : Option Recorded). unwrap_or o none_recorded) (updates q ∙ ap (λ b. cond b (Some next) (lookup (bytes_eq q) old)) is)
          ∙ were q
          ∙ sym (held_more facts (fact_of id fact) q ∙ ap (λ b. cond b (taken (held_of facts q) fact) (held_of facts q)) is)

-- the map after an insert for which it was grown
pub inserted : (q id key : List ℕ) (old mid new : List (List ℕ × Recorded)) (next value : Recorded) → mid ≡ old → key ≡ id → value ≡ next
    → lookup (bytes_eq q) new ≡ cond (bytes_eq key q) (Some value) (lookup (bytes_eq q) mid)
    → lookup (bytes_eq q) new ≡ cond (bytes_eq id q) (Some next) (lookup (bytes_eq q) old)
inserted q id key old mid new next value grown same taken is =
    is ∙ (λ i. cond (bytes_eq (same i) q) (Some (taken i)) (lookup (bytes_eq q) (grown i)))

-- the fact that an event ends the running action of a resource with this outcome
pub ended_one : (v : Event) (e : List ℕ × Resource) (id : List ℕ) (outcome : Outcome) (x : Running) (r : Result) → id ≡ e.0
    → end_of v.change id ≡ Some outcome → e.1.history.running ≡ Some x → r ≡ ended_of outcome v.at x
    → ended_facts v e ≡ fact_of id (Ended r) ∷ []
ended_one v e id outcome x r same ends runs is =
    ap (λ o. option_to_list (option_and_then (λ (y : Outcome). option_map (λ (z : Running). fact_of e.0 (Ended (ended_of y v.at z))) e.1.history.running) o))
    (ap (end_of v.change) (sym same) ∙ ends)
    ∙ ap (λ o. option_to_list (option_map (λ (z : Running). fact_of e.0 (Ended (ended_of outcome v.at z))) o)) runs
    ∙ ap (λ (i : List ℕ). fact_of i (Ended (ended_of outcome v.at x)) ∷ []) (sym same)
    ∙ ap (λ (z : Result). fact_of id (Ended z) ∷ []) (sym is)

-- no fact of a resource whose running action the event does not end
pub ended_none : (v : Event) (e : List ℕ × Resource) → end_of v.change e.0 ≡ None → ended_facts v e ≡ []
ended_none v e ends =
    ap (λ o. option_to_list (option_and_then (λ (y : Outcome). option_map (λ (z : Running). fact_of e.0 (Ended (ended_of y v.at z))) e.1.history.running) o))
    ends

-- the facts after one more event
pub since_more : (s : State) (facts : List FactOf) (vs : List Event) (v : Event)
    → facts_since s facts (vs ++ v ∷ []) ≡ facts_since s facts vs ++ facts_by (after_all s vs) v
since_more s facts [] v = refl
since_more s facts (w ∷ ws) v = since_more (after s w) (facts ++ facts_by s w) ws v
