-- Lists with more pairs at their end.
use Rattle.std.proofs.Common.{◌≡◌, ℕ, ◌+◌, ◌<◌, List, [], ◌∷◌, ◌++◌, length, take, get_or, refl, sym, ◌∙◌, ap, append_assoc}
use Rattle.std.proofs.lemmas.List.{take_more, map-append}
use Rattle.ocf_types.specs.Params.{ParamList}
use Rattle.ocf_env.specs.Locations.{Pair}
use Rattle.ocf_env.specs.Variables.{reskey}
use Rattle.ocf_env.specs.Lists.{param_pairs}

-- a pair whose value equals another
pub valued : (old new : List Pair) (name v w : List ℕ) → new ≡ old ++ (name, v) ∷ [] → v ≡ w → new ≡ old ++ (name, w) ∷ []
valued old new name v w e f = e ∙ ap (λ (x : List ℕ). old ++ (name, x) ∷ []) f

pub two_more : (old mid new : List Pair) (x y : Pair) → mid ≡ old ++ x ∷ [] → new ≡ mid ++ y ∷ [] → new ≡ old ++ (x ∷ y ∷ [])
two_more old mid new x y e f = f ∙ ap (λ (l : List Pair). l ++ y ∷ []) e ∙ append_assoc old (x ∷ []) (y ∷ [])

pub params_more : (ps : ParamList) (i : ℕ) (p : Pair) (old mid new : List Pair) → i < length ps → p ≡ get_or ps i p
    → mid ≡ old ++ param_pairs (take i ps) → new ≡ mid ++ (reskey p.0, p.1) ∷ []
    → new ≡ old ++ param_pairs (take (i + 1) ps)
params_more ps i p old mid new h at e f =
    let taken : take (i + 1) ps ≡ take i ps ++ p ∷ [] = take_more ps i p h ∙ ap (λ (x : Pair). take i ps ++ x ∷ []) (sym at) in
    let listed : param_pairs (take (i + 1) ps) ≡ param_pairs (take i ps) ++ (reskey p.0, p.1) ∷ [] = ap
    (λ (x : ParamList). param_pairs x) taken ∙ map-append (λ (q : Pair). (reskey q.0, q.1)) (take i ps) (p ∷ []) in
    f ∙ ap (λ (l : List Pair). l ++ (reskey p.0, p.1) ∷ []) e ∙ append_assoc old (param_pairs (take i ps)) ((reskey p.0, p.1) ∷ [])
    ∙ ap (λ (l : List Pair). old ++ l) (sym listed)

-- a list to which five pieces were appended, one after another
pub in_five : (none one two three four five a b c e : List Pair) (d : Pair) → none ≡ [] → one ≡ none ++ a → two ≡ one ++ b
    → three ≡ two ++ c → four ≡ three ++ d ∷ [] → five ≡ four ++ e
    → five ≡ a ++ (b ++ (c ++ d ∷ e))
in_five none one two three four five a b c e d h i j k l m =
    let grown : five ≡ (((a ++ b) ++ c) ++ d ∷ []) ++ e = rw (m, l, k, j, i, h) refl in
    grown ∙ simp append_assoc

pub in_two : (none one two a b : List Pair) → none ≡ [] → one ≡ none ++ a → two ≡ one ++ b → two ≡ a ++ b
in_two none one two a b h i j = rw (j, i, h) refl
