use Rattle.std.proofs.Common.{◌≡◌, ℕ, List, [], true, false, None, Err, take, get_or, sym, ap, ◌∙◌, subst, arith}
use Rattle.std.proofs.lemmas.List.{take_all}
use Rattle.ocf_types.specs.Names.{is_param_name}
use Rattle.ocf_types.specs.Values.{is_param_value, IsValueOrRefused}
use Rattle.ocf_types.specs.declared.values.ValueError.{ValueError}
use Rattle.ocf_types.specs.declared.values.ValueError.TheVariants.{BadValue, Memory}
use Rattle.ocf_types.specs.Params.{ParamList, AreParams, is_after, last_name}
use Rattle.exec_commands.specs.Keys.{TextPair, texts_seen}
use Rattle.exec_commands.specs.Values.{valued_params}
use Rattle.exec_commands.proofs.ParamLemmas.{after_at, name_at, bad_value, valued}
use Rattle.exec_commands.proofs.params.valued_params.Goals as goal

-- the item past the end
abbrev none : TextPair
none = (record { ref_ptr = (0, 0); now = [] }, record { ref_ptr = (0, 0); now = [] })

no_value : (e : ValueError) (text : List ℕ) → e ≡ BadValue → IsValueOrRefused (Err e) text → is_param_value text ≡ false
no_value BadValue text is h = h
no_value Memory text is h = absurd cc

pub unreachable-requires : goal.unreachable-requires
unreachable-requires c =
    let named : is_param_name (get_or c.args.members.now c.loop-name.name-index none).0.now ≡ true =
    name_at c.args.members.now c.loop-name.name-index none (omega arith) c.requires.names in
    let other : false ≡ true = c.in-Err.ensures.lawful ∙ ap is_param_name c.as_bytes.ensures.value ∙ named in
    absurd cc

pub returns-in-Err-BadValue-clause-err : goal.returns-in-Err-BadValue-clause-err
returns-in-Err-BadValue-clause-err c = λ _.
    let refused =
    no_value c.in-Err-BadValue.field-0 c.as_bytes-in-loop-name.result.now c.in-Err-BadValue.field-0-is c.in-Err-BadValue.ensures.value in
    let bad : is_param_value (get_or c.args.members.now c.loop-name.name-index none).1.now ≡ false = ap is_param_value
    (sym c.as_bytes-in-loop-name.ensures.value) ∙ refused in
    bad_value c.args.members.now c.loop-name.name-index none (omega arith) bad

pub push-requires-clause-after : goal.push-requires-clause-after
push-requires-clause-after c =
    let ms = c.args.members.now in
    let i = c.loop-name.name-index in
    let name : c.in-Ok.name ≡ (get_or ms i none).0.now = c.in-Ok.ensures.bytes ∙ c.as_bytes.ensures.value in
    ap (λ (ps : ParamList). is_after (last_name None ps) c.in-Ok.name) c.loop-name.invariant
    ∙ ap (λ (n : List ℕ). is_after (last_name None (texts_seen (take i ms))) n) name ∙ after_at ms i none (omega arith) c.requires.sorted

pub returns-clause-ok : goal.returns-clause-ok
returns-clause-ok c =
    let ms = c.args.members.now in
    let whole : texts_seen ms ≡ c.loop-name.params = ap texts_seen (sym (take_all c.loop-name.name-index ms (omega arith)))
    ∙ sym c.loop-name.invariant in
    let lawful : AreParams c.loop-name.params = subst AreParams c.as_slice.ensures.entries c.as_slice.ensures.lawful in
    ap valued_params whole ∙ valued c.loop-name.params lawful
