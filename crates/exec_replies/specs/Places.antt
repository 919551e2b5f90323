-- The members of the ready line, in parts.
use Rattle.std.specs.Prelude.{true, List, [], ◌∷◌, ◌++◌, codes}
use Rattle.json.specs.Token.{Token, begin_object}
use Rattle.exec_replies.specs.Service.{identity_in, lent}
use Rattle.exec_replies.specs.Tokens.{flag_member, number_member, text_or_null_member}
use Rattle.exec_replies.specs.declared.service.Counts.{Counts}
use Rattle.exec_replies.specs.declared.service.Service.{Service}

-- what was dropped and interrupted, and the journal of the session
abbrev pub place_tokens : Service → Counts → List Token
place_tokens s counts =
    (begin_object ∷ []) ++ (number_member (codes "dropped") counts.dropped ++ (text_or_null_member (codes "identity") (identity_in s)
    ++ (number_member (codes "interrupted") counts.interrupted ++ text_or_null_member (codes "journal") (lent s.journal))))

-- from where the session goes on
abbrev pub counts_tokens : Counts → List Token
counts_tokens counts =
    number_member (codes "next_call") counts.next_call
    ++ (flag_member (codes "ready") true ++ number_member (codes "resources") counts.resources)
