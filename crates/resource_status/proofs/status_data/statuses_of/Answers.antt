use Rattle.std.proofs.Common.{◌<◌, ◌++◌, length, List, [], ◌∷◌, ap, sym, ◌∙◌, rules}
use Rattle.std.proofs.lemmas.List.{map_more}
use Rattle.serde_json.specs.Data.{Data}
use Rattle.ocf_model.specs.Indexes.{entry_at, no_entry}
use Rattle.resource_status.specs.Statuses.{status_of}
use Rattle.resource_status.proofs.status_data.statuses_of.Goals as goal

pub loop-index-preserved : goal.loop-index-preserved
loop-index-preserved c =
    let s = c.args.state.now.state in
    let i = c.loop-index.index in
    let lt : i < length s.resources = search rules in
    c.in_ok-add_status.ensures.added
    ∙ ap (λ (ds : List Data). ds ++ status_of c.args.reasons.now (entry_at s i) ∷ []) c.loop-index.invariant
    ∙ sym (map_more (status_of c.args.reasons.now) s.resources i no_entry lt)
