-- A session is the calls of its inputs.
use Rattle.std.proofs.Common.{ℕ, List, [], ◌∷◌}
use Rattle.ocf_model.specs.Answer.{Reply}
use Rattle.executor_laws.specs.Joins.{as_calls}
use Rattle.executor.specs.Exchanges.{Calls}
use Rattle.exec_ledger.specs.Pieces.{Effects}
use Rattle.executor_laws.specs.Projections.{IsFree, IsFreeSession}
use Rattle.executor.specs.Sessions.{Input, Session}
use Rattle.executor.specs.ExecutorView.{ExecutorView}
use Rattle.store_model.specs.StoreView.{StoreView}

pub lemma_session_is_calls : {S : Type 0} (view : S → StoreView) (x z : ExecutorView S) (is : List Input) (rs : List Reply) (d : Effects)
    → Session view x is rs z d → Calls view x (as_calls is rs) z d
lemma_session_is_calls view x z [] [] d session = session
lemma_session_is_calls view x z [] (r ∷ rs) d session = absurd session
lemma_session_is_calls view x z (i ∷ is) [] d session = absurd session
lemma_session_is_calls view x z (i ∷ is) (r ∷ rs) d (mid, first, later, takes, rest, all) =
    (mid, first, later, takes, lemma_session_is_calls view mid z is rs later rest, all)

-- a resource that is not held in its inputs is not held in these calls
pub free_calls : {S : Type 0} (view : S → StoreView) (id : List ℕ) (x z : ExecutorView S) (is : List Input) (rs : List Reply) (d : Effects)
    (session : Session view x is rs z d) → IsFreeSession view id x is rs z d session
    → IsFree view id x (as_calls is rs) z d (lemma_session_is_calls view x z is rs d session)
unfolding lemma_session_is_calls
free_calls view id x z [] [] d session free = tt
free_calls view id x z [] (r ∷ rs) d session free = absurd session
free_calls view id x z (i ∷ is) [] d session free = absurd session
free_calls view id x z (i ∷ is) (r ∷ rs) d (mid, first, later, takes, rest, all) free = (free.0, free_calls view id mid z is rs later rest free.1)
