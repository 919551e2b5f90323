-- Families that follow each other.
use Rattle.std.proofs.Common.{◌≡◌, ℕ, List, [], ◌∷◌, ◌++◌, Result, Ok, Err, IfOk, ap, sym, append_assoc, subst, ◌∙◌}
use Rattle.ocf_codes.specs.ExitCodes.{IsPlainText}
use Rattle.exec_metrics.specs.Families.{header}
use Rattle.exec_metrics.specs.Metrics.{GoesOn}
use Rattle.exec_metrics.specs.declared.family.Family.{Family}

pub joined : (xs ys : List (Family × List ℕ)) (a b c : List ℕ) → GoesOn xs a b → GoesOn ys b c → GoesOn (xs ++ ys) a c
joined [] ys a b c first rest = subst (λ (t : List ℕ). GoesOn ys t c) first rest
joined (x ∷ xs) ys a b c first rest = (first.0, first.1, joined xs ys (a ++ (header x.0 first.0 ++ x.1)) b c first.2 rest)

-- a family, whose lines follow its header
pub one_family : (f : Family) (lines old mid new : List ℕ) → (help : List ℕ) × IsPlainText help × (mid ≡ old ++ header f help) → new ≡ mid ++ lines
    → GoesOn ((f, lines) ∷ []) old new
one_family f lines old mid new headed added =
    (headed.0, headed.1, added ∙ ap (λ (t : List ℕ). t ++ lines) headed.2 ∙ append_assoc old (header f headed.0) lines)

-- a text that is finished
pub finished : {V E : Type 0} (items : V → List ℕ) (r : Result V E) (fs : List (Family × List ℕ)) (text : List ℕ) → GoesOn fs [] text
    → IfOk r (λ v. items v ≡ text) → IfOk r (λ v. GoesOn fs [] (items v))
finished items (Ok v) fs text all is = subst (λ (t : List ℕ). GoesOn fs [] t) (sym is) all
finished items (Err e) fs text all is = tt
