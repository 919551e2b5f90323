-- What was sent over a history of incarnations is recorded.
use Rattle.std.proofs.Common.{◌≡◌, inl, inr, List, [], ◌∷◌, ◌++◌, refl, sym, subst}
use Rattle.ocf_types.specs.Kinds.{Event}
use Rattle.ocf_model.specs.State.{State}
use Rattle.executor_laws.specs.Incarnations.{InOpening, Up, SurvivingEvents, Incarnation}
use Rattle.exec_client.specs.BackedBy.{BackedBy, nothing}
use Rattle.session_laws.specs.SentOver.{SentOver}
use Rattle.exec_client.specs.SentItem.{SentItem}
use Rattle.exec_client.proofs.Behinds.{after_after, after_more, both_after}

-- by the equality of their arguments
by_lists : (ss ts : List SentItem) (es fs : List Event) → ss ≡ ts → es ≡ fs → BackedBy ts fs → BackedBy ss es
by_lists ss ts es fs same same2 b =
    subst (λ (ns : List SentItem). BackedBy ns es) (sym same) (subst (λ (gs : List Event). BackedBy ts gs) (sym same2) b)

pub sent_lives : {S : Type 0} (start : State) (incarnations : List (Incarnation S)) (reported : List SentItem) (zs : List Event) → SentOver incarnations reported
    → SurvivingEvents start incarnations zs → BackedBy reported zs
sent_lives start [] reported zs none same = by_lists reported [] zs [] none same nothing
sent_lives start (InOpening old new now end ∷ older) reported zs over (ys, surviving, inl same) =
    by_lists reported reported zs ys refl same (sent_lives start older reported ys over surviving)
sent_lives start (InOpening old new now end ∷ older) reported zs over (ys, surviving, inr (may, is)) =
    by_lists reported reported zs _ refl is (after_more reported ys _ (sent_lives start older reported ys over surviving))
sent_lives start (Up x ∷ older) reported zs (before, later, over, backed, same) (ys, p, surviving, holds, is) =
    by_lists reported (before ++ later) zs _ same is
    (both_after before ys later _ (sent_lives start older before ys over surviving)
    (after_after later _ p (by_lists later later p _ refl holds.acknowledged (after_more later x.done.events holds.later backed))))
