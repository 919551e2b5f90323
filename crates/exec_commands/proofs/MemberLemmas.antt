-- A value that was read has as many members as its text has keys, exactly if no key comes twice.
use Rattle.std.proofs.Common.{◌≡◌, ◌≢◌, ℕ, suc, ◌+◌, ◌≤◌, List, ◌∷◌, Option, Some, None, option_map, option_and_then, Ordering, Less, Equal, Greater, nat_cmp, refl, sym, ap, ◌∙◌, subst, arith}
use Rattle.std.specs.Prelude.{⊤}
use Rattle.std.specs.Cmp.Lexicographic.{slice_cmp}
use Rattle.std.specs.List.{All}
use Rattle.std.specs.Ordering.{match_ordering, ordering_reverse}
use Rattle.std.proofs.lemmas.Cmp.{nat_list_cmp_total}
use Rattle.std.proofs.lemmas.List.Elements.{All-nil, All-cons, All-head, All-tail}
use Rattle.std.proofs.lemmas.List.Kept.{AllPairs-cons}
use Rattle.json.specs.Json as json
use Rattle.json.specs.Json.{Json}
use Rattle.json.specs.Strict.{keys, AreDistinct, HasUniqueKeys, ItemsHaveUniqueKeys, MembersHaveUniqueKeys}
use Rattle.serde_json.specs.Data.{Num, Data, null, boolean, number, string, array, object, Items, no_items, item, Members, no_members, member, put}
use Rattle.serde_json.specs.Find.{get_member}
use Rattle.serde_json.specs.Read.{of_json, of_items, of_members, number_of}
use Rattle.serde_json.proofs.Views.{get_member-put, get_member-put_other}
use Rattle.exec_commands.specs.KeyCounts.{members_in, members_in_items, members_in_members}
use Rattle.exec_commands.proofs.ColonLemmas.{keys_in, keys_in_items, keys_in_members}

-- ---- what `put` adds

abbrev weight : Option Data → ℕ
weight None = 0
weight (Some d) = suc (members_in d)

weightless : (o : Option Data) → weight o ≡ 0 → o ≡ None
weightless None e = refl
weightless (Some d) e = absurd (omega (arith, e))

abbrev IsBelowAll : List ℕ → Members → Type 0
IsBelowAll k no_members = ⊤
IsBelowAll k (member l e ms) = (slice_cmp nat_cmp k l ≡ Less) × IsBelowAll k ms

abbrev IsAscending : Members → Type 0
IsAscending no_members = ⊤
IsAscending (member l e ms) = IsBelowAll l ms × IsAscending ms

not_there : (k : List ℕ) (ms : Members) → IsBelowAll k ms → get_member k ms ≡ None
not_there k no_members h = refl
not_there k (member l e ms) h = rw h.0 (not_there k ms h.1)

lower : (k l : List ℕ) (ms : Members) → slice_cmp nat_cmp k l ≡ Less → IsBelowAll l ms → IsBelowAll k ms
lower k l no_members less h = tt
lower k l (member m e ms) less h = (nat_list_cmp_total.trans k l m less h.0, lower k l ms less h.1)

put-IsBelowAll : (l k : List ℕ) (d : Data) (ms : Members) → slice_cmp nat_cmp l k ≡ Less → IsBelowAll l ms → IsBelowAll l (put k d ms)
put-IsBelowAll l k d no_members less h = (less, tt)
put-IsBelowAll l k d (member m e ms) less h = by (put-IsBelowAll l k d ms less h.1) (slice_cmp nat_cmp k m)
  where
    by : IsBelowAll l (put k d ms) → (o : Ordering) → IsBelowAll l (match_ordering o (member k d (member m e ms)) (member m d ms) (member m e (put k d ms)))
    by later Less = (less, h)
    by later Equal = h
    by later Greater = (h.0, later)

put-IsAscending : (k : List ℕ) (d : Data) (ms : Members) → IsAscending ms → IsAscending (put k d ms)
put-IsAscending k d no_members h = (tt, tt)
put-IsAscending k d (member m e ms) h = by (put-IsAscending k d ms h.1) (slice_cmp nat_cmp k m) refl
  where
    by : IsAscending (put k d ms) → (o : Ordering) → slice_cmp nat_cmp k m ≡ o → IsAscending (match_ordering o (member k d (member m e ms)) (member m d ms) (member m e (put k d ms)))
    by later Less is = ((is, lower k m ms is h.0), h)
    by later Equal is = h
    by later Greater is = (put-IsBelowAll m k d ms (nat_list_cmp_total.antisymm m k ∙ ap ordering_reverse is) h.0, later)

-- what was at the key goes
put_counts : (k : List ℕ) (d : Data) (ms : Members) → IsAscending ms
    → members_in_members (put k d ms) + weight (get_member k ms) ≡ members_in_members ms + suc (members_in d)
put_counts k d no_members h = omega arith
put_counts k d (member m e ms) h = by (put_counts k d ms h.1) (slice_cmp nat_cmp k m) refl
  where
    by : members_in_members (put k d ms) + weight (get_member k ms) ≡ members_in_members ms + suc (members_in d) → (o : Ordering) → slice_cmp nat_cmp k m ≡ o
        → members_in_members (match_ordering o (member k d (member m e ms)) (member m d ms) (member m e (put k d ms))) + weight (match_ordering o (get_member k ms) (Some e) (get_member k ms))
        ≡ members_in_members (member m e ms) + suc (members_in d)
    by later Less is = omega (arith, ap weight (not_there k ms (lower k m ms is h.0)))
    by later Equal is = omega arith
    by later Greater is = omega (arith, later)

-- ---- keys that are not there

abbrev AreAbsent : List (List ℕ) → Members → Type 0
AreAbsent ks ms = All (λ l. get_member l ms ≡ None) ks

abbrev IsNoneOf : List ℕ → List (List ℕ) → Type 0
IsNoneOf k ks = All (λ l. k ≢ l) ks

absent_after : (k : List ℕ) (d : Data) (ms : Members) (ks : List (List ℕ)) → AreAbsent ks (put k d ms) → IsNoneOf k ks × AreAbsent ks ms
absent_after k d ms ks h = ((λ i e within. (one _ (h i e within)).0), (λ i e within. (one _ (h i e within)).1))
  where
    one : (l : List ℕ) → get_member l (put k d ms) ≡ None → (k ≢ l) × (get_member l ms ≡ None)
    one l none =
        let apart : k ≢ l = λ same. let there : get_member l (put k d ms) ≡ Some d = subst (λ x. get_member x (put k d ms) ≡ Some d) same (get_member-put k d ms) in cc in
        (apart, sym (get_member-put_other l k d ms (λ same. apart (sym same))) ∙ none)

absent_put : (k : List ℕ) (d : Data) (ms : Members) (ks : List (List ℕ)) → IsNoneOf k ks → AreAbsent ks ms → AreAbsent ks (put k d ms)
absent_put k d ms ks apart h = λ i e within. get_member-put_other _ k d ms (λ same. apart i e within (sym same)) ∙ h i e within

first_distinct : (k : List ℕ) (ks : List (List ℕ)) → AreDistinct (k ∷ ks) → IsNoneOf k ks
first_distinct k ks h = λ j d within. h 0 (suc j) d (omega arith) (omega arith)

others_distinct : (k : List ℕ) (ks : List (List ℕ)) → AreDistinct (k ∷ ks) → AreDistinct ks
others_distinct k ks h = λ i j d less within. h (suc i) (suc j) d (omega arith) (omega arith)

-- ---- what is read of a value

-- m is at most n, and equal exactly if P
abbrev pub Counted : Type 0 → ℕ → ℕ → Type 0
Counted P m n = (m ≤ n) × (P → m ≡ n) × (m ≡ n → P)

no_keys : Counted ⊤ 0 0
no_keys = (omega arith, λ h. refl, λ e. tt)

both : (P Q : Type 0) (m n a b : ℕ) → Counted P m n → Counted Q a b → Counted (P × Q) (m + a) (n + b)
both P Q m n a b x y =
    (omega (arith, x.0, y.0), λ h. omega (arith, x.1 h.0, y.1 h.1), λ e. (x.2 (omega (arith, e, x.0, y.0)), y.2 (omega (arith, e, x.0, y.0))))

or_else : {A : Type 0} → A → Option A → A
or_else d None = d
or_else d (Some a) = a

inner : {A : Type 0} (a b : A) → Some a ≡ Some b → a ≡ b
unfolding or_else
inner a b e = ap (or_else a) e

of_number : (o : Option Num) (d : Data) → option_map number o ≡ Some d → Counted ⊤ (members_in d) 0
of_number None d e = absurd cc
of_number (Some n) d e = subst (λ x. Counted ⊤ (members_in x) 0) (inner (number n) d e) no_keys

of_array : (js : json.Items) → ((ds : Items) → of_items js ≡ Some ds → Counted (ItemsHaveUniqueKeys js) (members_in_items ds) (keys_in_items js)) → (o : Option Items) → of_items js ≡ o
    → (d : Data) → option_map array o ≡ Some d → Counted (ItemsHaveUniqueKeys js) (members_in d) (keys_in_items js)
of_array js ih None is d e = absurd cc
of_array js ih (Some ds) is d e = subst (λ x. Counted (ItemsHaveUniqueKeys js) (members_in x) (keys_in_items js)) (inner (array ds) d e) (ih ds is)

of_item : (j : Json) (js : json.Items) → ((d : Data) → of_json j ≡ Some d → Counted (HasUniqueKeys j) (members_in d) (keys_in j))
    → ((ds : Items) → of_items js ≡ Some ds → Counted (ItemsHaveUniqueKeys js) (members_in_items ds) (keys_in_items js))
    → (o : Option Data) (p : Option Items) → of_json j ≡ o → of_items js ≡ p → (ds : Items) → option_and_then (λ d. option_map (item d) p) o ≡ Some ds
    → Counted (HasUniqueKeys j × ItemsHaveUniqueKeys js) (members_in_items ds) (keys_in j + keys_in_items js)
of_item j js first others None p o_is p_is ds e = absurd cc
of_item j js first others (Some d) None o_is p_is ds e = absurd cc
of_item j js first others (Some d) (Some es) o_is p_is ds e =
    subst (λ x. Counted (HasUniqueKeys j × ItemsHaveUniqueKeys js) (members_in_items x) (keys_in j + keys_in_items js)) (inner (item d es) ds e)
    (both _ _ _ _ _ _ (first d o_is) (others es p_is))

-- the members of an object, read into `old`
abbrev AreFresh : json.Members → Members → Type 0
AreFresh ms old = AreAbsent (keys ms) old × AreDistinct (keys ms) × MembersHaveUniqueKeys ms

abbrev CountedInto : json.Members → Members → Members → Type 0
CountedInto ms old new = Counted (AreFresh ms old) (members_in_members new) (members_in_members old + keys_in_members ms)

of_object : (ms : json.Members) → ((old new : Members) → IsAscending old → of_members ms old ≡ Some new → CountedInto ms old new) → (o : Option Members) → of_members ms no_members ≡ o
    → (d : Data) → option_map object o ≡ Some d → Counted (AreDistinct (keys ms) × MembersHaveUniqueKeys ms) (members_in d) (keys_in_members ms)
of_object ms ih None is d e = absurd cc
of_object ms ih (Some new) is d e =
    let c = ih no_members new tt is in
    let all : AreAbsent (keys ms) no_members = λ i x within. refl in
    subst (λ x. Counted (AreDistinct (keys ms) × MembersHaveUniqueKeys ms) (members_in x) (keys_in_members ms)) (inner (object new) d e)
    (omega (arith, c.0), λ h. omega (arith, c.1 (all, h.0, h.1)), λ same. let fresh = c.2 (omega (arith, same)) in (fresh.1, fresh.2))

one_member : (k : List ℕ) (j : Json) (ms : json.Members) (d : Data) (old new : Members) → IsAscending old → Counted (HasUniqueKeys j) (members_in d) (keys_in j) → CountedInto ms (put k d old) new
    → CountedInto (json.member k j ms) old new
one_member k j ms d old new ascending x y =
    let adds = put_counts k d old ascending in
    let at_most : members_in_members new ≤ members_in_members old + (suc (keys_in j) + keys_in_members ms) = omega (arith, adds, x.0, y.0) in
    let forth : AreFresh (json.member k j ms) old → members_in_members new ≡ members_in_members old + (suc (keys_in j) + keys_in_members ms) =
    λ h.
    let none : weight (get_member k old) ≡ 0 = ap weight (All-head (λ l. get_member l old ≡ None) k (keys ms) h.0) in
    let rest : AreAbsent (keys ms) (put k d old) = absent_put k d old (keys ms) (first_distinct k (keys ms) h.1) (All-tail (λ l. get_member l old ≡ None) k (keys ms) h.0) in
    let after = y.1 (rest, others_distinct k (keys ms) h.1, h.2.1) in
    omega (arith, none, adds, x.1 h.2.0, after) in
    let back : members_in_members new ≡ members_in_members old + (suc (keys_in j) + keys_in_members ms) → AreFresh (json.member k j ms) old =
    λ same.
    let none : get_member k old ≡ None = weightless (get_member k old) (omega (arith, same, adds, x.0, y.0)) in
    let unique = x.2 (omega (arith, same, adds, x.0, y.0)) in
    let rest = y.2 (omega (arith, same, adds, x.0, y.0)) in
    let apart = absent_after k d old (keys ms) rest.0 in
    (All-cons (λ l. get_member l old ≡ None) k (keys ms) none apart.1, AllPairs-cons (λ a b. a ≢ b) k (keys ms) apart.0 rest.1, (unique, rest.2)) in
    (at_most, forth, back)

of_member : (k : List ℕ) (j : Json) (ms : json.Members) → ((d : Data) → of_json j ≡ Some d → Counted (HasUniqueKeys j) (members_in d) (keys_in j))
    → ((old new : Members) → IsAscending old → of_members ms old ≡ Some new → CountedInto ms old new) → (o : Option Data) → of_json j ≡ o → (old new : Members) → IsAscending old
    → option_and_then (λ d. of_members ms (put k d old)) o ≡ Some new → CountedInto (json.member k j ms) old new
of_member k j ms first others None o_is old new ascending e = absurd cc
of_member k j ms first others (Some d) o_is old new ascending e =
    one_member k j ms d old new ascending (first d o_is) (others (put k d old) new (put-IsAscending k d old ascending) e)

mutual
  pub counted : (j : Json) (d : Data) → of_json j ≡ Some d → Counted (HasUniqueKeys j) (members_in d) (keys_in j)
  counted json.null d e = subst (λ x. Counted ⊤ (members_in x) 0) (inner null d e) no_keys
  counted (json.boolean b) d e = subst (λ x. Counted ⊤ (members_in x) 0) (inner (boolean b) d e) no_keys
  counted (json.number s) d e = of_number (number_of s) d e
  counted (json.string s) d e = subst (λ x. Counted ⊤ (members_in x) 0) (inner (string s) d e) no_keys
  counted (json.array js) d e = of_array js (counted_items js) (of_items js) refl d e
  counted (json.object ms) d e = of_object ms (counted_members ms) (of_members ms no_members) refl d e

  counted_items : (js : json.Items) (ds : Items) → of_items js ≡ Some ds → Counted (ItemsHaveUniqueKeys js) (members_in_items ds) (keys_in_items js)
  counted_items json.no_items ds e = subst (λ x. Counted ⊤ (members_in_items x) 0) (inner no_items ds e) no_keys
  counted_items (json.item j js) ds e = of_item j js (counted j) (counted_items js) (of_json j) (of_items js) refl refl ds e

  counted_members : (ms : json.Members) (old new : Members) → IsAscending old → of_members ms old ≡ Some new → CountedInto ms old new
  counted_members json.no_members old new ascending e =
      let same : members_in_members old ≡ members_in_members new = ap members_in_members (inner old new e) in
      (omega (arith, same), λ h. omega (arith, same), λ h. (All-nil (λ l. get_member l old ≡ None), λ i j d less within. absurd (omega (arith, less, within)), tt))
  counted_members (json.member k j ms) old new ascending e = of_member k j ms (counted j) (counted_members ms) (of_json j) refl old new ascending e
