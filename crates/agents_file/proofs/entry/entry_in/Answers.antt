use Rattle.std.proofs.Common.{◌≡◌, ◌∙◌, ap, arith, subst, sym}
use Rattle.std.specs.Prelude.{Some, true}
use Rattle.ocf_types.specs.Lemmas.{some_is}
use Rattle.ocf_types.specs.Names.{is_rsc_id}
use Rattle.agents_file.proofs.EntryLemmas.{has_texts, same_parts}
use Rattle.agents_file.proofs.entry.entry_in.Goals as goal

pub returns : goal.returns
returns c e is line =
    let texts = has_texts e c.fields_in-fields.result (c.fields_in-fields.ensures e is line) in
    let run = c.run_in.ensures e.run is.run texts.run in
    let id = c.id_in.ensures (subst (λ l. is_rsc_id l ≡ true) (sym texts.id) is.id) in
    let action = c.action_in.ensures e.action texts.action in
    ap Some (same_parts e c.in-Some.run' c.in-Some-id_in.id c.in-Some-action_in.action c.short_number.result c.number.result
    c.number-2.result c.short_number-2.result
    (some_is c.in-Some.run' e.run (sym c.in-Some.is ∙ run))
    (some_is c.in-Some-id_in.id e.id (sym c.in-Some-id_in.is ∙ id ∙ ap Some texts.id))
    (some_is c.in-Some-action_in.action e.action (sym c.in-Some-action_in.is ∙ action))
    (c.short_number.ensures e.pid (omega (arith, is.pid)) texts.pid)
    (c.number.ensures e.start is.start texts.start)
    (c.number-2.ensures e.began is.began texts.began)
    (c.short_number-2.ensures e.timeout is.timeout texts.timeout))
