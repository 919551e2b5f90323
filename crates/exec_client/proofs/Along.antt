-- Lines that are written one after another.
use Rattle.std.proofs.Common.{◌≡◌, ℕ, zero, suc, ◌+◌, ◌<◌, ◌≤◌, List, [], ◌∷◌, ◌++◌, Option, drop, get_or, length, append_assoc, refl, sym, ap, subst, ◌∙◌, arith, add-one, drop-cons}
use Rattle.std.proofs.lemmas.List.{append-nil}
use Rattle.std.proofs.KnownBytes.{Appends-nil, Appends-trans}
use Rattle.std.specs.Io.KnownBytes.{Appends}
use Rattle.exec_lines.specs.Prefixes.{AppendsPrefix}

-- some of the lines are written, and the others are left
pub record Along (all rest : List ℕ) (old new : Option (List ℕ)) : Type 0 where
  pub done : List ℕ
  pub parts : all ≡ done ++ rest
  pub written : Appends old new done

-- none is written
pub along_none : (all : List ℕ) (a : Option (List ℕ)) → Along all all a a
along_none all a = record { done = []; parts = refl; written = Appends-nil a }

-- the next line is written
pub along_more : (all line rest : List ℕ) (a b c : Option (List ℕ)) → Along all (line ++ rest) a b → Appends b c line → Along all rest a c
along_more all line rest a b c so_far sent = record {
  done = so_far.done ++ line;
  parts = so_far.parts ∙ sym (append_assoc so_far.done line rest);
  written = Appends-trans a b c _ _ so_far.written sent;
}

-- nothing is left
pub along_all : (all rest : List ℕ) (a b : Option (List ℕ)) → rest ≡ [] → Along all rest a b → Appends a b all
along_all all rest a b none so_far =
    subst (λ (l : List ℕ). Appends a b l)
    (sym (so_far.parts ∙ ap (λ (l : List ℕ). so_far.done ++ l) none ∙ append-nil so_far.done)) so_far.written

-- the next line is cut short
pub along_part : (all line rest : List ℕ) (a b c : Option (List ℕ)) → Along all (line ++ rest) a b → AppendsPrefix b c line
    → AppendsPrefix a c all
along_part all line rest a b c so_far part = record {
  prefix = so_far.done ++ part.prefix;
  rest = part.rest ++ rest;
  parts = so_far.parts ∙ ap (λ (l : List ℕ). so_far.done ++ (l ++ rest)) part.parts
      ∙ ap (λ (l : List ℕ). so_far.done ++ l) (append_assoc part.prefix part.rest rest)
      ∙ sym (append_assoc so_far.done part.prefix (part.rest ++ rest));
  written = Appends-trans a b c _ _ so_far.written part.written;
}

-- the items that are left, and the next of them
pub drop_next : {X : Type 0} (xs : List X) (i : ℕ) (x : X) → i < length xs → x ≡ get_or xs i x → drop i xs ≡ x ∷ drop (i + 1) xs
drop_next xs i x lt is = rw (add-one, drop-cons xs i x) (ap (λ z. z ∷ drop (suc i) xs) (sym is))

pub drop_none : {X : Type 0} (xs : List X) (i : ℕ) → length xs ≤ i → drop i xs ≡ []
drop_none [] zero le = refl
drop_none [] (suc i) le = refl
drop_none (x ∷ xs) zero le = absurd (omega (arith, le))
drop_none (x ∷ xs) (suc i) le = drop_none xs i (omega (arith, le))
