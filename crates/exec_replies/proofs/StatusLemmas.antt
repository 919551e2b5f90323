-- Values that have no float.
use Rattle.std.proofs.Common.{◌≡◌, Bool, true, false, ◌||◌, List, [], ◌∷◌, ◌++◌, map, refl}
use Rattle.serde_json.specs.Data.{Data}
use Rattle.serde_json.specs.View.{items_of, view}
use Rattle.serde_json.specs.Written.{has_float, items_have_float}
use Rattle.serde_json.specs.declared.value.Value.{Value}
use Rattle.exec_replies.specs.Service.{statuses_data}

-- of two tests that do not hold together, neither does
pub neither : (a b : Bool) → (a || b) ≡ false → (a ≡ false) × (b ≡ false)
neither false b none = (refl, none)
neither true b none = absurd cc

pub one_more : (vs : List Value) (v : Value) → items_have_float (items_of (map view vs)) ≡ false → has_float (view v) ≡ false
    → items_have_float (items_of (map view (vs ++ v ∷ []))) ≡ false
one_more [] v none one = rw one refl
one_more (w ∷ vs) v none one =
    let each = neither (has_float (view w)) (items_have_float (items_of (map view vs))) none in
    rw each.0 (one_more vs v each.1 one)

pub statuses_no_float : (statuses : List Data) → items_have_float (items_of statuses) ≡ false → has_float (statuses_data statuses) ≡ false
statuses_no_float statuses none = rw none refl
