-- The parameters before a name, and those after it.
use Rattle.std.proofs.Common.{◌≡◌, ◌⊎◌, inl, inr, ℕ, true, false, ◌&&◌, List, [], ◌∷◌, ◌++◌, Option, Some, refl, sym, ◌∙◌, ap, subst}
use Rattle.std.specs.Prelude.{filter}
use Rattle.std.specs.Str.{bytes_eq}
use Rattle.std.specs.Ordering.{nat_cmp, is_lt, ordering_reverse}
use Rattle.std.specs.Cmp.Lexicographic.{slice_cmp}
use Rattle.std.specs.declared.cmp.Ordering.{Ordering}
use Rattle.std.specs.declared.cmp.Ordering.TheVariants.{Less, Equal, Greater}
use Rattle.std.proofs.lemmas.Cmp.{nat_list_cmp_total}
use Rattle.std.proofs.lemmas.Map.Lookups.{exact_bytes}
use Rattle.std.proofs.lemmas.Slice.Eq.{bytes_eq-Decides}
use Rattle.ocf_types.specs.Names.{is_param_name}
use Rattle.ocf_types.specs.Values.{is_param_value}
use Rattle.ocf_types.specs.Params.{ParamList, is_before, is_after, are_params_after, has_param}
use Rattle.ocf_types.specs.Lemmas.{before_differs, before_trans, both, less_is, not_before_itself}
use Rattle.ocf_types.specs.Lemmas.{other_way}

-- one name is before another, the same, or after it
pub before_cases : (a b : List ℕ) → (is_before a b ≡ true) ⊎ ((a ≡ b) ⊎ (is_before b a ≡ true))
before_cases a b = by (slice_cmp nat_cmp a b) refl
  where
    by : (r : Ordering) → slice_cmp nat_cmp a b ≡ r → (is_before a b ≡ true) ⊎ ((a ≡ b) ⊎ (is_before b a ≡ true))
    by Less e = inl (ap is_lt e)
    by Equal e = inr (inl (exact_bytes a b e))
    by Greater e = inr (inr (ap is_lt (nat_list_cmp_total.antisymm b a ∙ ap ordering_reverse e)))

pub not_back : (a b : List ℕ) → is_before a b ≡ true → is_before b a ≡ false
not_back a b h = ap is_lt (nat_list_cmp_total.antisymm b a ∙ ap ordering_reverse (less_is _ h))

-- the name is before all of these parameters
pub record AllAfter (name : List ℕ) (ps : ParamList) : Type 0 where
  pub none_before : filter (λ p. is_before p.0 name) ps ≡ []
  pub all_after : filter (λ p. is_before name p.0) ps ≡ ps
  pub not_there : has_param name ps ≡ false

pub all_after_last : (name last : List ℕ) (ps : ParamList) → (is_before name last ≡ true) ⊎ (name ≡ last)
    → are_params_after (Some last) ps ≡ true → AllAfter name ps
all_after_last name last [] le h = record { none_before = refl; all_after = refl; not_there = refl }
all_after_last name last (p ∷ ps) le h =
    let s = both (is_before last p.0 && is_param_name p.0 && is_param_value p.1) (are_params_after (Some p.0) ps) h in
    let t = both (is_before last p.0 && is_param_name p.0) (is_param_value p.1) s.0 in
    let u = both (is_before last p.0) (is_param_name p.0) t.0 in
    let before : is_before name p.0 ≡ true =
    elim le [ inl lt ↦ before_trans name last p.0 lt u.0 | inr e ↦ subst (λ x. is_before x p.0 ≡ true) (sym e) u.0 ] in
    let rest = all_after_last name p.0 ps (inl before) s.1 in
    let back : is_before p.0 name ≡ false = not_back name p.0 before in
    let other : bytes_eq p.0 name ≡ false = before_differs name p.0 before in
    record {
      none_before = rw (back, rest.none_before) refl;
      all_after = rw (before, rest.all_after) refl;
      not_there = rw (other, rest.not_there) refl;
    }

abbrev pub lesser : List ℕ → ParamList → ParamList
lesser name ps = filter (λ p. is_before p.0 name) ps

abbrev pub greater : List ℕ → ParamList → ParamList
greater name ps = filter (λ p. is_before name p.0) ps

-- the name is absent: all parameters are before it or after it
pub record Absent (name : List ℕ) (ps : ParamList) : Type 0 where
  pub gone : has_param name ps ≡ false
  pub whole : ps ≡ lesser name ps ++ greater name ps

-- the name is present, between those before it and those after it
pub record Present (name : List ℕ) (ps : ParamList) : Type 0 where
  pub there : has_param name ps ≡ true
  pub entry : List ℕ × List ℕ
  pub same : entry.0 ≡ name
  pub whole : ps ≡ lesser name ps ++ entry ∷ greater name ps

pub around : (name : List ℕ) (last : Option (List ℕ)) (ps : ParamList) → are_params_after last ps ≡ true → Absent name ps ⊎ Present name ps
around name last [] h = inl (record { gone = refl; whole = refl })
around name last (p ∷ ps) h =
    elim (before_cases p.0 name) [
      | inl lt ↦ more lt
          (around name (Some p.0) ps sorted)
      | inr r ↦ elim r [ inl e ↦ equal e | inr gt ↦ upper gt ]
    ]
  where
    sorted : are_params_after (Some p.0) ps ≡ true
    sorted = (both (is_after last p.0 && is_param_name p.0 && is_param_value p.1) (are_params_after (Some p.0) ps) h).1

    more : is_before p.0 name ≡ true → Absent name ps ⊎ Present name ps → Absent name (p ∷ ps) ⊎ Present name (p ∷ ps)
    more lt (inl a) =
        let back : is_before name p.0 ≡ false = not_back p.0 name lt in
        let other : bytes_eq p.0 name ≡ false = other_way name p.0 (before_differs p.0 name lt) in
        inl (record { gone = rw other a.gone; whole = rw (lt, back) (ap (λ (xs : ParamList). p ∷ xs) a.whole) })
    more lt (inr b) =
        let back : is_before name p.0 ≡ false = not_back p.0 name lt in
        let other : bytes_eq p.0 name ≡ false = other_way name p.0 (before_differs p.0 name lt) in
        inr (record {
          there = rw other b.there;
          entry = b.entry;
          same = b.same;
          whole = rw (lt, back) (ap (λ (xs : ParamList). p ∷ xs) b.whole);
        })

    equal : p.0 ≡ name → Absent name (p ∷ ps) ⊎ Present name (p ∷ ps)
    equal e =
        let after = all_after_last name p.0 ps (inr (sym e)) sorted in
        let lt : is_before p.0 name ≡ false = subst (λ x. is_before x name ≡ false) (sym e) (not_before_itself name) in
        let back : is_before name p.0 ≡ false = subst (λ x. is_before name x ≡ false) (sym e) (not_before_itself name) in
        let is : bytes_eq p.0 name ≡ true = (bytes_eq-Decides p.0 name).1 e in
        inr (record { there = rw is refl; entry = p; same = e; whole = rw (lt, back, after.none_before, after.all_after) refl })

    upper : is_before name p.0 ≡ true → Absent name (p ∷ ps) ⊎ Present name (p ∷ ps)
    upper gt =
        let after = all_after_last name p.0 ps (inl gt) sorted in
        let lt : is_before p.0 name ≡ false = not_back name p.0 gt in
        let other : bytes_eq p.0 name ≡ false = before_differs name p.0 gt in
        inl (record { gone = rw (other, after.not_there) refl; whole = rw (lt, gt, after.none_before, after.all_after) refl })
