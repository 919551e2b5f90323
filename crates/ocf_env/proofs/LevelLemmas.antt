-- The numbers of levels, written out.
use Rattle.std.proofs.Common.{◌≡◌, ℕ, List, [], ◌∷◌, ◌++◌, decimal, sym, ◌∙◌, ap, lit<, lit≤}
use Rattle.std.proofs.lemmas.Fmt.{decimal_digit, decimal_step}

pub zero_text : 48 ∷ [] ≡ decimal 0
zero_text = sym (decimal_digit 0 (lit< tt))

pub ten_text : 49 ∷ 48 ∷ [] ≡ decimal 10
ten_text = sym (decimal_step 10 (lit≤ tt) (lit< tt) ∙ ap (λ (l : List ℕ). l ++ 48 ∷ []) (decimal_digit 1 (lit< tt)))

pub twenty_text : 50 ∷ 48 ∷ [] ≡ decimal 20
twenty_text = sym (decimal_step 20 (lit≤ tt) (lit< tt) ∙ ap (λ (l : List ℕ). l ++ 48 ∷ []) (decimal_digit 2 (lit< tt)))
