-- Lemmas on lists of calls of an executor, for proofs here and in the crates above.
use Rattle.std.specs.Prelude.{List, [], ◌∷◌, ◌++◌}
use Rattle.std.proofs.Common.{sym, ap, subst, ◌∙◌}
use Rattle.exec_ledger.specs.Pieces.{Effects, followed_by}
use Rattle.executor.specs.CallLemmas.{followed_by_assoc}
use Rattle.executor.specs.ExecutorView.{ExecutorView}
use Rattle.executor.specs.Exchanges.{Calls, Exchange}
use Rattle.store_model.specs.StoreView.{StoreView}

module _ {S : Type 0} (view : S → StoreView) where
  -- calls after others
  pub calls_after : (x y z : ExecutorView S) (es fs : List Exchange) (a b : Effects) → Calls view x es y a → Calls view y fs z b
      → Calls view x (es ++ fs) z (followed_by a b)
  calls_after x y z [] fs a b (same, none) later =
      subst (λ (d : Effects). Calls view x fs z d) (sym (ap (λ (d : Effects). followed_by d b) none))
      (subst (λ (w : ExecutorView S). Calls view w fs z b) same later)
  calls_after x y z (e ∷ es) fs a b (mid, first, rest, does, calls, is) later = (
    mid,
    first,
    followed_by rest b,
    does,
    calls_after mid y z es fs rest b calls later,
    ap (λ (d : Effects). followed_by d b) is ∙ sym (followed_by_assoc first rest b),
  )
