use Rattle.std.proofs.Common.{rules, tests, ap, ◌==◌, ◌∙◌}
use Rattle.std.specs.Iterator.Adapters.{filter_callee}
use Rattle.std.proofs.lemmas.Fn.{filter_same}
use Rattle.std.proofs.lemmas.Iterator.{YieldsList-from_slice}
use Rattle.std.proofs.lemmas.Iterator.Adapters.{items_from_extend}
use Rattle.std.proofs.lemmas.Iterator.Consumers.{YieldsList-from_copied, YieldsList-from_filter}
use Rattle.proc_files.proofs.belongings.move_children.Goals as goal

pub returns-clause-found : goal.returns-clause-found
returns-clause-found g c =
    let h = items_from_extend c.extend.result c.extend.ensures.ran
    (YieldsList-from_copied (YieldsList-from_filter _ (λ p. p.parent == c.args.pid)
    (YieldsList-from_slice c.args.rest.now.items cc) (ap filter_callee c.copied.ensures.source ∙ c.filter.ensures.closure)
    (λ x b q k. search (rules, tests)))) in
    search rules

pub returns-clause-rest : goal.returns-clause-rest
returns-clause-rest g c = filter_same _ _ _ (λ x b f' k. search rules) _ _ c.retain.ensures.filtered
