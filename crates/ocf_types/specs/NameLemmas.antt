-- Lemmas: names are ASCII, and ASCII bytes are text; for proofs in the crates above.
use Rattle.std.specs.Prelude.{◌≡◌, ℕ, ◌<◌, Bool, true, List, [], ◌∷◌}
use Rattle.std.proofs.Common.{arith}
use Rattle.std.specs.List.{list_all}
use Rattle.std.specs.Str.{IsAscii, IsUtf8}
use Rattle.std.proofs.lemmas.Str.{IsUtf8-from_ascii}
use Rattle.std.proofs.lemmas.Str.Ascii.{IsAscii-nil, IsAscii-cons}
use Rattle.std.proofs.lemmas.Bool.Decides.{nat_tests}
use Rattle.ocf_types.specs.Lemmas.{both}
use Rattle.ocf_types.specs.Names.{is_name_byte, is_id_byte, is_word_byte, is_rsc_id, is_provider, is_agent_type, is_param_name}

-- ASCII bytes are UTF-8
pub texts : (bs : List ℕ) → IsAscii bs → IsUtf8 bs
texts bs h = IsUtf8-from_ascii bs h

-- the bytes of names are ASCII
word_byte : (b : ℕ) → is_word_byte b ≡ true → b < 128
word_byte b h = grind (arith, nat_tests)

name_byte : (b : ℕ) → is_name_byte b ≡ true → b < 128
name_byte b h = grind (arith, nat_tests)

id_byte : (b : ℕ) → is_id_byte b ≡ true → b < 128
id_byte b h = grind (arith, nat_tests)

-- bytes that all pass a test of ASCII bytes
all_ascii : (p : ℕ → Bool) → ((b : ℕ) → p b ≡ true → b < 128) → (bs : List ℕ) → list_all p bs ≡ true → IsAscii bs
all_ascii p low [] h = IsAscii-nil
all_ascii p low (b ∷ bs) h =
    let s = both (p b) (list_all p bs) h in
    IsAscii-cons b bs (low b s.0) (all_ascii p low bs s.1)

-- ids, providers, types and names of parameters are ASCII
pub ids : (bs : List ℕ) → is_rsc_id bs ≡ true → IsAscii bs
ids bs h = all_ascii is_id_byte id_byte bs (both _ _ h).1

pub providers : (bs : List ℕ) → is_provider bs ≡ true → IsAscii bs
providers bs h = all_ascii is_name_byte name_byte bs (both _ _ h).1

pub agent_types : (bs : List ℕ) → is_agent_type bs ≡ true → IsAscii bs
agent_types bs h = all_ascii is_name_byte name_byte bs (both _ _ h).1

pub param_names : (bs : List ℕ) → is_param_name bs ≡ true → IsAscii bs
param_names bs h = all_ascii is_word_byte word_byte bs (both _ _ h).1
