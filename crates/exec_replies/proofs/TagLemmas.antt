-- A tag adds no float to an object.
use Rattle.std.proofs.Common.{◌≡◌, ℕ, false, List, Option, Some, None, codes, refl}
use Rattle.std.specs.Cmp.Lexicographic.{slice_cmp}
use Rattle.std.specs.Ordering.{match_ordering, nat_cmp}
use Rattle.std.specs.declared.cmp.Ordering.{Ordering}
use Rattle.std.specs.declared.cmp.Ordering.TheVariants.{Less, Equal, Greater}
use Rattle.serde_json.specs.Data.{Data, Members, array, boolean, member, no_members, null, number, object, put, string}
use Rattle.serde_json.specs.Written.{has_float, members_have_float}
use Rattle.exec_replies.specs.LineKinds.{kind_word, with_kind}
use Rattle.exec_replies.specs.Objects.{object_with}
use Rattle.exec_replies.specs.Tags.{marked, with_tag}
use Rattle.exec_replies.specs.declared.kind.LineKind.{LineKind}
use Rattle.exec_replies.proofs.StatusLemmas.{neither}

put_no_float : (key text : List ℕ) (ms : Members) → members_have_float ms ≡ false → members_have_float (put key (string text) ms) ≡ false
put_no_float key text no_members none = refl
put_no_float key text (member other d ms) none = by (slice_cmp nat_cmp key other) (put_no_float key text ms none_in.1)
  where
    none_in : (has_float d ≡ false) × (members_have_float ms ≡ false)
    none_in = neither (has_float d) (members_have_float ms) none

    by : (o : Ordering) → members_have_float (put key (string text) ms) ≡ false
        → members_have_float (match_ordering o (member key (string text) (member other d ms)) (member other (string text) ms)
        (member other d (put key (string text) ms))) ≡ false
    by Less later = none
    by Equal later = none_in.1
    by Greater later = rw none_in.0 later

-- an object with one more text has no float
with_no_float : (key text : List ℕ) (d : Data) → has_float d ≡ false → has_float (object_with key (string text) d) ≡ false
with_no_float key text null none = none
with_no_float key text (boolean b) none = none
with_no_float key text (number n) none = none
with_no_float key text (string t) none = none
with_no_float key text (array ds) none = none
with_no_float key text (object ms) none = put_no_float key text ms none

-- an object with a tag has no float
tagged_no_float : (tag : Option (List ℕ)) (d : Data) → has_float d ≡ false → has_float (with_tag tag d) ≡ false
tagged_no_float None d none = none
tagged_no_float (Some tag) d none = with_no_float (codes "tag") tag d none

-- an object with a kind and a tag has no float
pub marked_no_float : (kind : Option LineKind) (tag : Option (List ℕ)) (d : Data) → has_float d ≡ false → has_float (marked kind tag d) ≡ false
marked_no_float None tag d none = tagged_no_float tag d none
marked_no_float (Some kind) tag d none = tagged_no_float tag (with_kind kind d) (with_no_float (codes "kind") (kind_word kind) d none)
