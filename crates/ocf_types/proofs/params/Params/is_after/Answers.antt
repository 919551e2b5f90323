use Rattle.std.proofs.Common.{◌≡◌, length, ap, ◌∙◌, sym, Some, ◌-◌, refl}
use Rattle.std.specs.Prelude.{slice_get}
use Rattle.std.specs.Ordering.{is_lt}
use Rattle.ocf_types.specs.Params.{ParamList}
use Rattle.ocf_types.proofs.ParamsLemmas.{last_name_is}
use Rattle.ocf_types.proofs.params.Params.is_after.Goals as goal

pub returns-in-Some : goal.returns-in-Some
returns-in-Some g c =
    let e : c.deref.result.now ≡ c.args.self.now = c.deref.ensures.value ∙ c.self.view_is in
    let k : slice_get c.args.self.now (length c.args.self.now - 1) ≡ Some c.in-Some.last.now = ap
    (λ (xs : ParamList). slice_get xs (length xs - 1)) (sym e) ∙ sym c.in-Some.ensures.value in
    let n = last_name_is c.args.self.now c.in-Some.last.now k in
    rw n (c.is_lt.ensures ∙ ap is_lt (c.cmp.ensures ∙ rw (c.as_bytes.ensures.bytes, c.as_bytes-in-Some.ensures.bytes) refl))
