-- Lines that are written one after the other: all of them, or a prefix of them after an error.
use Rattle.std.proofs.Common.{◌≡◌, ◌≢◌, ℕ, ◌+◌, ◌<◌, List, [], ◌++◌, Result, Ok, Err, IfErr, IfOk, OnErr, Option, drop, get_or, length, take, take-append-drop, append_assoc, refl, sym, ap, subst, ◌∙◌}
use Rattle.std.proofs.lemmas.List.Concat.{flat_map-append}
use Rattle.std.proofs.KnownBytes.{Appends-nil, Appends-trans}
use Rattle.std.specs.List.{flat_map}
use Rattle.std.specs.Io.KnownBytes.{Appends}
use Rattle.ocf_types.specs.Lemmas.{flat_more}
use Rattle.exec_lines.specs.Prefixes.{AppendsPrefix}
use Rattle.exec_lines.specs.declared.io_fault.IoFault.{IoFault}
use Rattle.exec_lines.specs.declared.io_fault.IoFault.TheVariants.{Memory}

-- nothing is a prefix of any line
pub prefix_none : (a b : Option (List ℕ)) (bytes : List ℕ) → b ≡ a → AppendsPrefix a b bytes
prefix_none a b bytes same =
    record { prefix = []; rest = bytes; parts = refl; written = subst (λ (o : Option (List ℕ)). Appends a o []) (sym same) (Appends-nil a) }

-- a prefix of a line, or nothing where memory for the line was refused
pub prefix_made : {T E V M : Type 0} (items : V → List ℕ) (line : Result V M) (r : Result T E) (a b : Option (List ℕ)) (bytes : List ℕ)
    → IfOk line (λ v. items v ≡ bytes) → IfOk line (λ v. OnErr r (AppendsPrefix a b (items v))) → IfErr line (λ _. b ≡ a)
    → OnErr r (AppendsPrefix a b bytes)
prefix_made items (Ok v) r a b bytes is prefix none = subst (λ (l : List ℕ). OnErr r (AppendsPrefix a b l)) is prefix
prefix_made items (Err m) (Ok done) a b bytes is prefix none = tt
prefix_made items (Err m) (Err e) a b bytes is prefix none = prefix_none a b bytes none

-- a fact after an error
pub on_err : {T E : Type 0} (r : Result T E) (P : Type 0) → P → OnErr r P
on_err (Ok x) P p = tt
on_err (Err e) P p = p

-- memory is needed to make a line, and none to write it
pub memory_of : {T V M : Type 0} (line : Result V M) (r : Result T IoFault) (X : Type 0)
    → IfOk line (λ _. IfErr r (λ f. f ≢ Memory)) → OnErr line X → IfErr r (λ f. f ≡ Memory → X)
memory_of line (Ok done) X only refused = tt
memory_of (Ok v) (Err f) X only refused = λ is. absurd (only is)
memory_of (Err m) (Err f) X only refused = λ is. refused

-- all lines: those before one of them, a prefix and the rest of it, and those after it
lines_part : (done line prefix rest later : List ℕ) → line ≡ prefix ++ rest → (done ++ line) ++ later ≡ (done ++ prefix) ++ (rest ++ later)
lines_part done line prefix rest later parts =
    ap (λ (l : List ℕ). (done ++ l) ++ later) parts ∙ ap (λ (l : List ℕ). l ++ later) (sym (append_assoc done prefix rest))
    ∙ append_assoc (done ++ prefix) rest later

-- whole lines and a prefix of the next one are a prefix of all lines
pub prefix_more : {X : Type 0} (f : X → List ℕ) (xs : List X) (i : ℕ) (x : X) (a b c : Option (List ℕ)) → i < length xs → x ≡ get_or xs i x
    → Appends a b (flat_map f (take i xs)) → AppendsPrefix b c (f x) → AppendsPrefix a c (flat_map f xs)
prefix_more f xs i x a b c lt is so_far part =
    let later = flat_map f (drop (i + 1) xs) in
    let all : flat_map f xs ≡ (flat_map f (take i xs) ++ f x) ++ later =
    ap (flat_map f) (sym (take-append-drop (i + 1) xs)) ∙ flat_map-append f (take (i + 1) xs) (drop (i + 1) xs)
    ∙ ap (λ (l : List ℕ). l ++ later) (flat_more f xs i x lt is) in
    record {
      prefix = flat_map f (take i xs) ++ part.prefix;
      rest = part.rest ++ later;
      parts = all ∙ lines_part (flat_map f (take i xs)) (f x) part.prefix part.rest later part.parts;
      written = Appends-trans a b c _ _ so_far part.written;
    }

-- whole lines, and one more
pub sends_more : {X : Type 0} (f : X → List ℕ) (xs : List X) (i : ℕ) (x : X) (a b c : Option (List ℕ)) → i < length xs → x ≡ get_or xs i x
    → Appends a b (flat_map f (take i xs)) → Appends b c (f x) → Appends a c (flat_map f (take (i + 1) xs))
sends_more f xs i x a b c lt is so_far sent =
    subst (λ bs. Appends a c bs) (sym (flat_more f xs i x lt is)) (Appends-trans a b c _ _ so_far sent)
