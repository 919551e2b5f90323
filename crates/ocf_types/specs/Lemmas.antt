-- Lemmas on tests, lists and orders, for proofs here and in the crates above.
use Rattle.std.specs.Prelude.{◌≡◌, ℕ, ◌+◌, ◌<◌, ◌==◌, Bool, true, false, ◌&&◌, List, [], ◌∷◌, ◌++◌, length, take, Some}
use Rattle.std.specs.List.{AllByRecursion, IsDistinct, flat_map}
use Rattle.std.specs.Ordering.{is_lt, ordering_reverse}
use Rattle.std.specs.Str.{bytes_eq}
use Rattle.std.specs.declared.cmp.Ordering.{Ordering}
use Rattle.std.specs.declared.cmp.Ordering.TheVariants.{Less, Equal, Greater}
use Rattle.std.proofs.Common.{get_or, arith, refl, sym, ap, subst, ◌∙◌}
use Rattle.std.proofs.lemmas.Bool.{false_from_ne_true}
use Rattle.std.proofs.lemmas.Bool.Decides.{nat_tests}
use Rattle.std.proofs.lemmas.Cmp.{nat_list_cmp_total}
use Rattle.std.proofs.lemmas.List.{append-nil, take_more}
use Rattle.std.proofs.lemmas.List.Concat.{flat_map-append, flat_map-cons}
use Rattle.std.proofs.lemmas.Slice.Eq.{bytes_eq-Decides}
use Rattle.ocf_types.specs.declared.action.Action.{Action}
use Rattle.ocf_types.specs.declared.action.Action.TheVariants.{Monitor}
use Rattle.ocf_types.specs.Actions.{is_monitor}
use Rattle.ocf_types.specs.Params.{is_before}

-- both sides hold of a conjunction that holds
pub both : (a b : Bool) → (a && b) ≡ true → (a ≡ true) × (b ≡ true)
both true b e = (refl, e)
both false b e = absurd cc

-- a conjunction holds if both sides do, and fails if the second one does
pub and_true : (a b : Bool) → a ≡ true → b ≡ true → (a && b) ≡ true
and_true true b a_is b_is = b_is
and_true false b a_is b_is = a_is

pub and_false : (b : Bool) → (b && false) ≡ false
and_false true = refl
and_false false = refl

-- what equality tests of numbers imply
pub same_number : (a b : ℕ) → a ≡ b → (a == b) ≡ true
same_number a b same = grind (arith, nat_tests)

pub zero_from_test : (n : ℕ) → true ≡ (n == 0) → n ≡ 0
zero_from_test n is = grind (arith, nat_tests)

pub some_from_test : (n : ℕ) → false ≡ (n == 0) → 0 < n
some_from_test n is = grind (arith, nat_tests)

-- only a monitor passes the test for one
pub monitor_is : (a : Action) → is_monitor a ≡ true → a ≡ Monitor
monitor_is Monitor e = refl
monitor_is _ e = absurd cc

-- `Some` is injective
pub some_is : {A : Type 0} (x y : A) → Some x ≡ Some y → x ≡ y
some_is x y is = cc

-- a list of length 0 is empty
pub nil_of : (xs : List ℕ) → length xs ≡ 0 → xs ≡ []
nil_of [] none = refl
nil_of (x ∷ xs) none = absurd (omega (arith, none))

-- the concatenation for a prefix that is one element longer
pub flat_more : {A B : Type 0} (f : A → List B) (xs : List A) (i : ℕ) (x : A) → i < length xs → x ≡ get_or xs i x
    → flat_map f (take (i + 1) xs) ≡ flat_map f (take i xs) ++ f x
flat_more f xs i x lt is =
    let more : take (i + 1) xs ≡ take i xs ++ x ∷ [] = take_more xs i x lt ∙ ap (λ y. take i xs ++ y ∷ []) (sym is) in
    let one : flat_map f (x ∷ []) ≡ f x = flat_map-cons f x [] ∙ append-nil (f x) in
    ap (flat_map f) more ∙ flat_map-append f (take i xs) (x ∷ []) ∙ ap (λ t. flat_map f (take i xs) ++ t) one

module _ {A : Type 0} where
  -- a property of each element implies a weaker one of each
  pub each_weaken : (P Q : A → Type 0) → ((x : A) → P x → Q x) → (xs : List A) → AllByRecursion P xs → AllByRecursion Q xs
  each_weaken P Q f [] h = tt
  each_weaken P Q f (x ∷ xs) h = (f x h.0, each_weaken P Q f xs h.1)

  -- a property of each element of two lists holds for their concatenation
  pub each_append : (P : A → Type 0) (xs ys : List A) → AllByRecursion P xs → AllByRecursion P ys → AllByRecursion P (xs ++ ys)
  each_append P [] ys h k = k
  each_append P (x ∷ xs) ys h k = (h.0, each_append P xs ys h.1 k)

-- an empty list of keys is distinct
pub distinct_none : {K : Type 0} (eq : K → K → Bool) → IsDistinct eq []
unfolding IsDistinct
distinct_none eq = tt

-- a comparison that tests as less is `Less`
pub less_is : (r : Ordering) → is_lt r ≡ true → r ≡ Less
less_is Less h = refl
less_is Equal h = absurd cc
less_is Greater h = absurd cc

-- a comparison that is its own reverse is not less; so a name is not before itself
pub not_self : (r : Ordering) → r ≡ ordering_reverse r → is_lt r ≡ false
not_self Less e = absurd cc
not_self Equal e = refl
not_self Greater e = refl

pub not_before_itself : (a : List ℕ) → is_before a a ≡ false
not_before_itself a = not_self _ (nat_list_cmp_total.antisymm a a)

-- a name that is before another differs from it
pub before_differs : (a b : List ℕ) → is_before a b ≡ true → bytes_eq b a ≡ false
before_differs a b h = by (bytes_eq b a) refl
  where
    by : (t : Bool) → bytes_eq b a ≡ t → t ≡ false
    by true e =
        let same : b ≡ a = (bytes_eq-Decides b a).0 e in
        let itself : is_before a a ≡ true = subst (λ x. is_before a x ≡ true) same h in
        absurd (let no : is_before a a ≡ false = not_before_itself a in cc)
    by false e = refl

-- the order of names is transitive
pub before_trans : (a b c : List ℕ) → is_before a b ≡ true → is_before b c ≡ true → is_before a c ≡ true
before_trans a b c h k = ap is_lt (nat_list_cmp_total.trans a b c (less_is _ h) (less_is _ k))

-- a failing test of ids also fails the other way round
pub other_way : (a b : List ℕ) → bytes_eq a b ≡ false → bytes_eq b a ≡ false
other_way a b h = false_from_ne_true _ (λ e. let same : bytes_eq a b ≡ true = (bytes_eq-Decides a b).1 (sym ((bytes_eq-Decides b a).0 e)) in
    let no : true ≡ false = sym same ∙ h in cc)
