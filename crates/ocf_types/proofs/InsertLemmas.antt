-- Parameters with one added, or with another value of one: its index, and the number of parameters.
use Rattle.std.proofs.Common.{◌≡◌, inl, inr, ℕ, zero, suc, ◌+◌, ◌<◌, Bool, true, false, List, [], ◌∷◌, ◌++◌, length, Some, None, refl, sym}
use Rattle.std.proofs.Common.{◌∙◌, ap, subst, arith, length-append}
use Rattle.std.specs.Prelude.{count_by, slice_get, insert, slice_set}
use Rattle.std.specs.List.{list_any}
use Rattle.std.specs.Str.{bytes_eq}
use Rattle.std.proofs.lemmas.Slice.Eq.{bytes_eq-Decides}
use Rattle.std.proofs.lemmas.List.Sums.{length-filter}
use Rattle.std.proofs.Math.Seq.{set-append_seam, take-append_seam, drop-append_seam}
use Rattle.std.proofs.lemmas.Bool.{or_parts}
use Rattle.ocf_types.specs.Names.{is_param_name}
use Rattle.ocf_types.specs.Values.{is_param_value}
use Rattle.ocf_types.specs.Params.{ParamList, is_before, are_params_after, AreParams, has_param, with_param}
use Rattle.ocf_types.proofs.AroundLemmas.{lesser, greater, Absent, Present, around}
use Rattle.ocf_types.proofs.SortedLemmas.{with_sorted}

count_is : (name : List ℕ) (ps : ParamList) → count_by (λ p. is_before p.0 name) ps ≡ length (lesser name ps)
count_is name ps = sym (length-filter (λ (p : List ℕ × List ℕ). is_before p.0 name) ps)

-- the element at the index where two lists meet
get_seam : (xs ys : ParamList) → slice_get (xs ++ ys) (length xs) ≡ slice_get ys 0
get_seam [] ys = refl
get_seam (x ∷ xs) ys = get_seam xs ys

insert_seam : (xs ys : ParamList) (e : List ℕ × List ℕ) → insert (xs ++ ys) (length xs) e ≡ xs ++ e ∷ ys
insert_seam xs ys e = rw (take-append_seam xs ys, drop-append_seam xs ys) refl

-- if no element passes, the one at an index does not
any_false_at : (test : List ℕ × List ℕ → Bool) (ps : ParamList) (n : ℕ) (e : List ℕ × List ℕ) → list_any test ps ≡ false
    → slice_get ps n ≡ Some e → test e ≡ false
any_false_at test [] n e h g = absurd cc
any_false_at test (p ∷ ps) zero e h g =
    let is : p ≡ e = cc in
    subst (λ x. test x ≡ false) is (or_parts (test p) (list_any test ps) h).0
any_false_at test (p ∷ ps) (suc n) e h g = any_false_at test ps n e (or_parts (test p) (list_any test ps) h).1 g

module _ (name : List ℕ) (ps : ParamList) (sorted : are_params_after None ps ≡ true) where
  index_of : (b : Present name ps) → slice_get ps (length (lesser name ps)) ≡ Some b.entry
  index_of b =
      ap (λ (xs : ParamList). slice_get xs (length (lesser name ps))) b.whole ∙ get_seam (lesser name ps) (b.entry ∷ greater name ps)

  -- the parameter at the index of a name has this name exactly when the name is present
  pub there_at : (e : List ℕ × List ℕ) (n : ℕ) → n ≡ count_by (λ p. is_before p.0 name) ps → slice_get ps n ≡ Some e
      → bytes_eq e.0 name ≡ has_param name ps
  there_at e n is g =
      elim (around name None ps sorted) [ inl a ↦ any_false_at (λ p. bytes_eq p.0 name) ps n e a.gone g ∙ sym a.gone | inr b ↦ present b ]
    where
      present : Present name ps → bytes_eq e.0 name ≡ has_param name ps
      present b =
          let at : n ≡ length (lesser name ps) = is ∙ count_is name ps in
          let here : Some e ≡ Some b.entry = sym g ∙ ap (λ k. slice_get ps k) at ∙ index_of b in
          let same : e ≡ b.entry = cc in
          (bytes_eq-Decides e.0 name).1 (ap (λ (x : List ℕ × List ℕ). x.0) same ∙ b.same) ∙ sym b.there

  pub none_at : (n : ℕ) → n ≡ count_by (λ p. is_before p.0 name) ps → slice_get ps n ≡ None → false ≡ has_param name ps
  none_at n is g = elim (around name None ps sorted) [ inl a ↦ sym a.gone | inr b ↦ present b ]
    where
      present : Present name ps → false ≡ has_param name ps
      present b =
          let at : n ≡ length (lesser name ps) = is ∙ count_is name ps in
          let here : None ≡ Some b.entry = sym g ∙ ap (λ k. slice_get ps k) at ∙ index_of b in
          absurd cc

  -- the index of a name that is present
  pub index_below : (n : ℕ) → n ≡ count_by (λ p. is_before p.0 name) ps → has_param name ps ≡ true → n < length ps
  index_below n is h = elim (around name None ps sorted) [ inl a ↦ absurd (let no = a.gone in cc) | inr b ↦ present b ]
    where
      present : Present name ps → n < length ps
      present b =
          let len : length ps ≡ length (lesser name ps ++ b.entry ∷ greater name ps) = ap (λ (xs : ParamList). length xs) b.whole in
          omega (arith, is, count_is name ps, len, length-append (lesser name ps) (b.entry ∷ greater name ps))

  -- a new value at the index of a name that is present
  pub set_there : (value : List ℕ) (n : ℕ) → n ≡ count_by (λ p. is_before p.0 name) ps → has_param name ps ≡ true
      → slice_set ps n (name, value) ≡ with_param name value ps
  set_there value n is h = elim (around name None ps sorted) [ inl a ↦ absurd (let no = a.gone in cc) | inr b ↦ present b ]
    where
      present : Present name ps → slice_set ps n (name, value) ≡ with_param name value ps
      present b =
          let at : n ≡ length (lesser name ps) = is ∙ count_is name ps in
          ap (λ k. slice_set ps k (name, value)) at ∙ ap (λ (xs : ParamList). slice_set xs (length (lesser name ps)) (name, value)) b.whole
          ∙ set-append_seam (lesser name ps) b.entry (greater name ps) (name, value)

  -- a name that is absent, inserted at its index
  pub insert_new : (value : List ℕ) (n : ℕ) → n ≡ count_by (λ p. is_before p.0 name) ps → has_param name ps ≡ false
      → insert ps n (name, value) ≡ with_param name value ps
  insert_new value n is h = elim (around name None ps sorted) [ inl a ↦ absent a | inr b ↦ absurd (let yes = b.there in cc) ]
    where
      absent : Absent name ps → insert ps n (name, value) ≡ with_param name value ps
      absent a =
          let at : n ≡ length (lesser name ps) = is ∙ count_is name ps in
          ap (λ k. insert ps k (name, value)) at ∙ ap (λ (xs : ParamList). insert xs (length (lesser name ps)) (name, value)) a.whole
          ∙ insert_seam (lesser name ps) (greater name ps) (name, value)

  -- the number of parameters after setting one that is present
  with_there_len : (value : List ℕ) → has_param name ps ≡ true → length (with_param name value ps) ≡ length ps
  with_there_len value h = elim (around name None ps sorted) [ inl a ↦ absurd (let no = a.gone in cc) | inr b ↦ present b ]
    where
      present : Present name ps → length (with_param name value ps) ≡ length ps
      present b =
          let len : length ps ≡ length (lesser name ps ++ b.entry ∷ greater name ps) = ap (λ (xs : ParamList). length xs) b.whole in
          omega (
            arith,
            len,
            length-append (lesser name ps) (b.entry ∷ greater name ps),
            length-append (lesser name ps) ((name, value) ∷ greater name ps),
          )

  with_new_len : (value : List ℕ) → has_param name ps ≡ false → length (with_param name value ps) ≡ length ps + 1
  with_new_len value h = elim (around name None ps sorted) [ inl a ↦ absent a | inr b ↦ absurd (let yes = b.there in cc) ]
    where
      absent : Absent name ps → length (with_param name value ps) ≡ length ps + 1
      absent a =
          let len : length ps ≡ length (lesser name ps ++ greater name ps) = ap (λ (xs : ParamList). length xs) a.whole in
          omega (
            arith,
            len,
            length-append (lesser name ps) (greater name ps),
            length-append (lesser name ps) ((name, value) ∷ greater name ps),
          )

-- the parameters with this one set are lawful: a new value of one that is present, or one more of at most 63
pub set_lawful : (name value : List ℕ) (ps : ParamList) (n : ℕ) → AreParams ps → is_param_name name ≡ true → is_param_value value ≡ true
    → n ≡ count_by (λ p. is_before p.0 name) ps → has_param name ps ≡ true → AreParams (slice_set ps n (name, value))
set_lawful name value ps n are named valued is there =
    subst AreParams (sym (set_there name ps are.sorted value n is there)) (record {
      at_most_64 = omega (arith, are.at_most_64, with_there_len name ps are.sorted value there);
      sorted = with_sorted name value None ps refl named valued are.sorted;
    })

pub insert_lawful : (name value : List ℕ) (ps : ParamList) (n : ℕ) → AreParams ps → is_param_name name ≡ true → is_param_value value ≡ true
    → n ≡ count_by (λ p. is_before p.0 name) ps → has_param name ps ≡ false → length ps < 64 → AreParams (insert ps n (name, value))
insert_lawful name value ps n are named valued is gone room =
    subst AreParams (sym (insert_new name ps are.sorted value n is gone)) (record {
      at_most_64 = omega (arith, room, with_new_len name ps are.sorted value gone);
      sorted = with_sorted name value None ps refl named valued are.sorted;
    })
