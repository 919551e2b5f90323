-- The members of a refusal, in two parts.
use Rattle.std.specs.Prelude.{ℕ, List, [], ◌∷◌, ◌++◌, Option, None, Some, codes}
use Rattle.json.specs.Token.{Token, begin_object, end_object}
use Rattle.ocf_model.specs.Refusals.{refusal_row}
use Rattle.ocf_model.specs.declared.refusal.Refusal.{Refusal}
use Rattle.exec_replies.specs.Service.{lent}
use Rattle.exec_replies.specs.Tokens.{kind_member, number_member, tag_member, text_member}
use Rattle.exec_replies.specs.declared.marks.Marks.{Marks}

-- the member for the key that it is about, if any
abbrev pub key_tokens : Option (List ℕ) → List Token
key_tokens None = []
key_tokens (Some key) = text_member (codes "key") key

abbrev pub error_tokens : Refusal → Option (List ℕ) → List Token
error_tokens why key = (begin_object ∷ []) ++ (text_member (codes "error") (refusal_row why).1 ++ key_tokens key)

abbrev pub message_tokens : Marks → Refusal → List ℕ → List Token
message_tokens marks why message =
    kind_member marks.kind ++ (text_member (codes "message") message ++ (number_member (codes "number") (refusal_row why).0
    ++ (tag_member (lent marks.tag) ++ (end_object ∷ []))))
