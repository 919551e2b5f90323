use Rattle.std.proofs.Common.{sym, ◌∙◌}
use Rattle.resource_status.proofs.RunLemmas.{alone_at}
use Rattle.resource_status.proofs.ends.index_alone.Goals as goal

pub returns-in-Some-clause-others : goal.returns-in-Some-clause-others
returns-in-Some-clause-others c =
    alone_at c.args.state.now.state c.args.id.now c.in-Some.index c.lemma_known.ensures.lawful.ids (sym c.index_of.ensures ∙ c.in-Some.is)
