use Rattle.std.proofs.Common.{sym, ◌∙◌}
use Rattle.status_table.proofs.NameLemmas.{named_none, named_one}
use Rattle.status_table.proofs.options.is_named.Goals as goal

pub returns-then-is_id_of : goal.returns-then-is_id_of
returns-then-is_id_of c =
    let named = c.named_at.result in
    sym (named_one c.args.ids.now c.args.id.now c.loop-at.at named c.named_at.ensures (sym c.is_id_of.ensures ∙ c.if-is_id_of.true))

pub loop-at-preserved : goal.loop-at-preserved
loop-at-preserved c =
    let named = c.named_at.result in
    named_none c.args.ids.now c.args.id.now c.loop-at.at named c.named_at.ensures c.loop-at.invariant
    (sym c.is_id_of.ensures ∙ c.if-is_id_of.false)
