use Rattle.std.proofs.Common.{◌≡◌, length, refl, ◌∙◌, ap, Some, ◌≤◌}
use Rattle.std.specs.Prelude.{slice_get}
use Rattle.std.specs.Str.{bytes_eq}
use Rattle.std.proofs.lemmas.Option.{slice_get_read, slice_get_past}
use Rattle.ocf_types.specs.Params.{ParamList}
use Rattle.ocf_types.proofs.InsertLemmas.{there_at, none_at}
use Rattle.ocf_types.proofs.params.is_there.Goals as goal

pub returns-in-Some : goal.returns-in-Some
returns-in-Some g c =
    let ps : ParamList = c.args.entries.now in
    let is = c.in-Some.ensures.lookup in
    let at : slice_get ps c.args.index ≡ Some c.in-Some.entry.now = slice_get_read ps
    (length ps) c.args.index c.in-Some.entry.now refl is.3.0 is.1 in
    c.eq.ensures ∙ ap (λ x. bytes_eq x c.as_bytes-in-Some.result.now) c.as_bytes.ensures.bytes
    ∙ ap (λ x. bytes_eq c.in-Some.entry.now.0 x) c.as_bytes-in-Some.ensures.bytes
    ∙ there_at c.args.name.now ps c.requires.lawful.sorted c.in-Some.entry.now c.args.index c.requires.index at

pub returns-in-None : goal.returns-in-None
returns-in-None g c =
    let ps : ParamList = c.args.entries.now in
    let past : length ps ≤ c.args.index = c.in-None.ensures.lookup.3 in
    none_at c.args.name.now ps c.requires.lawful.sorted c.args.index c.requires.index (slice_get_past ps c.args.index past)
