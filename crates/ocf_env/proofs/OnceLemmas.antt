-- In an ascending list no name has two values.
use Rattle.std.proofs.Common.{◌≡◌, inl, inr, ℕ, true, false, List, [], ◌∷◌, Option, Some, None, refl, sym, ◌∙◌, ap, subst}
use Rattle.ocf_types.specs.Params.{is_before, is_after, AreParams}
use Rattle.ocf_types.specs.Kinds.{Registration}
use Rattle.ocf_types.specs.declared.action.Task.{Task}
use Rattle.ocf_env.specs.Locations.{SiteView, Pair}
use Rattle.ocf_env.specs.Variables.{IsVariable, are_ascending_after}
use Rattle.ocf_env.specs.Lists.{action_pairs}
use Rattle.ocf_types.specs.Lemmas.{before_trans, both, not_before_itself}
use Rattle.ocf_env.proofs.Amongs.{Among, among}
use Rattle.ocf_env.proofs.SortedLemmas.{ascending}
use Rattle.ocf_env.proofs.MemberLemmas.{members}

not_before_same : (a b : List ℕ) → a ≡ b → is_before a b ≡ true → ⊥
not_before_same a b e h =
    let k : is_before a a ≡ true = subst (λ (x : List ℕ). is_before a x ≡ true) (sym e) h in
    let n : is_before a a ≡ false = not_before_itself a in
    cc

after_last : (last : List ℕ) (xs : List Pair) (x : Pair) → are_ascending_after (Some last) xs ≡ true → Among x xs
    → is_before last x.0 ≡ true
after_last last [] x h a = absurd a
after_last last (y ∷ ys) x h (inl e) =
    let s = both (is_before last y.0) (are_ascending_after (Some y.0) ys) h in
    subst (λ (z : Pair). is_before last z.0 ≡ true) e s.0
after_last last (y ∷ ys) x h (inr a) =
    let s = both (is_before last y.0) (are_ascending_after (Some y.0) ys) h in
    before_trans last y.0 x.0 s.0 (after_last y.0 ys x s.1 a)

once : (last : Option (List ℕ)) (xs : List Pair) (x y : Pair) → x.0 ≡ y.0 → are_ascending_after last xs ≡ true → Among x xs → Among y xs
    → x.1 ≡ y.1
once last [] x y n h a b = absurd a
once last (z ∷ zs) x y n h (inl e) (inl f) = ap (λ (p : Pair). p.1) (sym e ∙ f)
once last (z ∷ zs) x y n h (inl e) (inr b) =
    let s = both (is_after last z.0) (are_ascending_after (Some z.0) zs) h in
    absurd (not_before_same z.0 y.0 (ap (λ (p : Pair). p.0) e ∙ n) (after_last z.0 zs y s.1 b))
once last (z ∷ zs) x y n h (inr a) (inl f) =
    let s = both (is_after last z.0) (are_ascending_after (Some z.0) zs) h in
    absurd (not_before_same z.0 x.0 (ap (λ (p : Pair). p.0) f ∙ sym n) (after_last z.0 zs x s.1 a))
once last (z ∷ zs) x y n h (inr a) (inr b) =
    let s = both (is_after last z.0) (are_ascending_after (Some z.0) zs) h in
    once (Some z.0) zs x y n s.1 a b

pub one_value : (site : SiteView) (r : Registration) (t : Task) (name v w : List ℕ) → AreParams r.params → IsVariable site r t name v
    → IsVariable site r t name w → v ≡ w
one_value site r t name v w lawful h k =
    let xs : List Pair = action_pairs site r t in
    once None xs (name, v) (name, w) refl (ascending site r t lawful)
    (among xs (name, v) ((members site r t name v).1 h)) (among xs (name, w) ((members site r t name w).1 k))
