use Rattle.std.proofs.Common.{[], ◌∷◌, decimal}
use Rattle.ocf_types.specs.Actions.{action_word}
use Rattle.agents_file.proofs.LineLemmas.{with_field}
use Rattle.agents_file.proofs.entry.entry_text.Goals as goal

pub returns-clause-text : goal.returns-clause-text
returns-clause-text c =
    let e = c.args.entry.now in
    let one = with_field [] (decimal e.run) c.new-fields.result.items c.add_number.new.fields.items (cc) (cc) in
    let two = with_field (decimal e.run ∷ []) e.id c.add_number.new.fields.items c.add_field.new.fields.items one (cc) in
    let three =
    with_field (decimal e.run ∷ e.id ∷ []) (action_word e.action) c.add_field.new.fields.items c.add_field-2.new.fields.items two (cc) in
    let four =
    with_field (decimal e.run ∷ e.id ∷ action_word e.action ∷ []) (decimal e.pid) c.add_field-2.new.fields.items
    c.add_number-2.new.fields.items three (cc) in
    let five =
    with_field (decimal e.run ∷ e.id ∷ action_word e.action ∷ decimal e.pid ∷ []) (decimal e.start)
    c.add_number-2.new.fields.items c.add_number-3.new.fields.items four (cc) in
    let six =
    with_field (decimal e.run ∷ e.id ∷ action_word e.action ∷ decimal e.pid ∷ decimal e.start ∷ []) (decimal e.began)
    c.add_number-3.new.fields.items c.add_number-4.new.fields.items five (cc) in
    with_field (decimal e.run ∷ e.id ∷ action_word e.action ∷ decimal e.pid ∷ decimal e.start ∷ decimal e.began ∷ [])
    (decimal e.timeout) c.add_number-4.new.fields.items c.add_number-5.new.fields.items six (cc)
