-- Lines, and the fields in them.
use Rattle.std.proofs.Common.{◌≡◌, ◌∙◌, ℕ, ◌≤◌, List, [], ◌∷◌, ◌++◌, length, drop, replicate}
use Rattle.std.proofs.Common.{refl, ap, sym, subst, append_assoc, arith}
use Rattle.std.specs.Prelude.{⊤, All}
use Rattle.std.proofs.lemmas.List.{drop-append-le, drop-replicate, length-replicate}
use Rattle.std.proofs.lemmas.List.Elements.{All-head, All-tail}
use Rattle.agents_file.specs.Lines.{Cuts, IsField, padded, space, spaced}

-- a text over the first bytes of the line of spaces
pub over_blank : (text : List ℕ) → length text ≤ 255 → text ++ drop (length text) (padded []) ≡ padded text
over_blank text short =
    let spaces = replicate 255 space in
    let fits : length text ≤ length spaces = omega (arith, length-replicate 255 space) in
    ap (λ l. text ++ l) (drop-append-le (length text) spaces (10 ∷ []) fits
    ∙ ap (λ l. l ++ 10 ∷ []) (drop-replicate (length text) 255 space))

-- a text that has a space is no field
pub field_lacks : (xs ys : List ℕ) → IsField (xs ++ space ∷ ys) → ⊥
field_lacks [] ys h = All-head (λ x. x ≡ space → ⊥) space ys h refl
field_lacks (x ∷ xs) ys h = field_lacks xs ys (All-tail (λ x. x ≡ space → ⊥) x (xs ++ space ∷ ys) h)

-- there is one way to cut a text after its first field
pub same_first : (xs ys rs ss : List ℕ) → xs ++ space ∷ rs ≡ ys ++ space ∷ ss → IsField xs → IsField ys → (xs ≡ ys) × (rs ≡ ss)
same_first [] [] rs ss e g h = (refl, cc)
same_first [] (y ∷ ys) rs ss e g h = absurd (All-head (λ x. x ≡ space → ⊥) y ys h (cc))
same_first (x ∷ xs) [] rs ss e g h = absurd (All-head (λ x. x ≡ space → ⊥) x xs g (cc))
same_first (x ∷ xs) (y ∷ ys) rs ss e g h =
    let more = same_first xs ys rs ss (cc) (All-tail (λ x. x ≡ space → ⊥) x xs g) (All-tail (λ x. x ≡ space → ⊥) y ys h) in
    (cc, more.1)

-- the parts around the first space
pub cuts : (text field rest : List ℕ) → text ≡ field ++ space ∷ rest → IsField field → Cuts text field rest
cuts text field rest is first f r same lacks = same_first field f rest r (sym is ∙ same) first lacks

-- without a space there is no field to cut
pub cuts_none : (text field rest : List ℕ) → IsField text → Cuts text field rest
cuts_none text field rest none f r same lacks = absurd (field_lacks f r (subst IsField same none))

-- fields followed by one more
spaced_push : (fields : List (List ℕ)) (field : List ℕ) → spaced (fields ++ field ∷ []) ≡ spaced fields ++ (field ++ space ∷ [])
spaced_push [] field = refl
spaced_push (f ∷ fields) field =
    ap (λ l. f ++ space ∷ l) (spaced_push fields field) ∙ sym (append_assoc f (space ∷ spaced fields) (field ++ space ∷ []))

pub with_field : (fields : List (List ℕ)) (field old new : List ℕ) → old ≡ spaced fields → new ≡ old ++ (field ++ space ∷ [])
    → new ≡ spaced (fields ++ field ∷ [])
with_field fields field old new was is = is ∙ ap (λ l. l ++ (field ++ space ∷ [])) was ∙ sym (spaced_push fields field)

-- the first of the fields of a text, and the text after it
pub first_of : (text field rest f pad : List ℕ) (fields : List (List ℕ)) → Cuts text field rest → text ≡ spaced (f ∷ fields) ++ pad
    → IsField f → (field ≡ f) × (rest ≡ spaced fields ++ pad)
first_of text field rest f pad fields cut is lacks =
    cut f (spaced fields ++ pad) (is ∙ append_assoc f (space ∷ spaced fields) pad) lacks

-- a text is cut after each of these fields
abbrev pub CutsAll : List ℕ → List (List ℕ) → Type 0
CutsAll text [] = ⊤
CutsAll text (field ∷ fields) = (rest : List ℕ) × Cuts text field rest × CutsAll rest fields

-- the fields of a text are found by cutting it as often as it has fields
pub all_cut : (text pad : List ℕ) (found fields : List (List ℕ)) → CutsAll text found → text ≡ spaced fields ++ pad
    → All IsField fields → length found ≡ length fields → found ≡ fields
all_cut text pad [] [] cuts is all count = refl
all_cut text pad [] (p ∷ ps) cuts is all count = absurd (omega (arith, count))
all_cut text pad (f ∷ fs) [] cuts is all count = absurd (omega (arith, count))
all_cut text pad (f ∷ fs) (p ∷ ps) (rest, cut, cuts) is all count =
    let first = first_of text f rest p pad ps cut is (All-head IsField p ps all) in
    let more = all_cut rest pad fs ps cuts first.1 (All-tail IsField p ps all) (omega (arith, count)) in
    cc

-- texts that begin with as many fields have the same fields, if they are equal
pub same_fields : (ps qs : List (List ℕ)) (p q : List ℕ) → length ps ≡ length qs → spaced ps ++ p ≡ spaced qs ++ q
    → All IsField ps → All IsField qs → ps ≡ qs
same_fields [] [] p q count is all others = refl
same_fields [] (b ∷ qs) p q count is all others = absurd (omega (arith, count))
same_fields (a ∷ ps) [] p q count is all others = absurd (omega (arith, count))
same_fields (a ∷ ps) (b ∷ qs) p q count is all others =
    let first = same_first a b (spaced ps ++ p) (spaced qs ++ q)
    (sym (append_assoc a (space ∷ spaced ps) p) ∙ is ∙ append_assoc b (space ∷ spaced qs) q)
    (All-head IsField a ps all) (All-head IsField b qs others) in
    let more = same_fields ps qs p q (omega (arith, count)) first.1 (All-tail IsField a ps all) (All-tail IsField b qs others) in
    cc
