-- What is known of a resource after one more result.
use Rattle.std.proofs.Common.{◌≡◌, ℕ, ◌+◌, take, List, Option, Some, None, ap, sym, ◌∙◌, slice_get}
use Rattle.std.proofs.lemmas.List.Sums.{fold_more}
use Rattle.std.proofs.lemmas.Option.{get_or_from_slice_get, slice_get_within}
use Rattle.ocf_types.specs.declared.operation.Ended.{Ended}
use Rattle.resource_status.specs.Conditions.{after, known_of}
use Rattle.resource_status.specs.declared.condition.Known.{Known}

pub known_more : (es : List Ended) (i : ℕ) (e : Ended) (before now : Option Known) → slice_get es i ≡ Some e → before ≡ known_of (take i es)
    → now ≡ after before e → now ≡ known_of (take (i + 1) es)
known_more es i e before now at was is =
    is ∙ ap (λ k. after k e) was
    ∙ sym (fold_more after None es i e (slice_get_within es i e at) ∙ ap (after (known_of (take i es))) (get_or_from_slice_get es i e e at))
