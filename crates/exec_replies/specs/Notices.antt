-- The members of a notice, in parts.
use Rattle.std.specs.Prelude.{ℕ, List, [], ◌∷◌, ◌++◌, Option, None, Some, codes}
use Rattle.json.specs.Token.{Token, begin_object, end_object}
use Rattle.ocf_types.specs.Actions.{action_word}
use Rattle.ocf_types.specs.Expected.{expect_code}
use Rattle.ocf_types.specs.Expected.{is_failure}
use Rattle.ocf_types.specs.Outcomes.{outcome_code, outcome_word}
use Rattle.ocf_types.specs.declared.operation.Ended.{Ended}
use Rattle.ocf_types.specs.declared.notice.Notice.{Notice}
use Rattle.ocf_codes.specs.ExitCodes.{name_read}
use Rattle.ocf_env.specs.Keys.{key_text}
use Rattle.exec_replies.specs.Tokens.{flag_member, number_member, text_member}

-- the short form, up to the id, and the rest
abbrev pub short_first : Notice → List Token
short_first n =
    (begin_object ∷ []) ++ (text_member (codes "action") (action_word n.result.action) ++ (number_member (codes "call") n.result.call
    ++ (number_member (codes "code") (outcome_code n.result.outcome) ++ text_member (codes "id") n.id)))

abbrev pub short_rest : Ended → List Token
short_rest e =
    number_member (codes "interval") e.interval ++ (text_member (codes "name") (name_read (outcome_code e.outcome))
    ++ (text_member (codes "outcome") (outcome_word e.outcome) ++ (number_member (codes "run") e.run ++ (end_object ∷ []))))

-- the other form, up to the expected exit code
abbrev pub timed_first : Notice → List Token
timed_first n =
    (begin_object ∷ []) ++ (text_member (codes "action") (action_word n.result.action) ++ (number_member (codes "at") n.result.at
    ++ (number_member (codes "call") n.result.call ++ (number_member (codes "code") (outcome_code n.result.outcome)
    ++ number_member (codes "expect") (expect_code n.expect)))))

-- up to the key of the operation
abbrev pub timed_key : Notice → List Token
timed_key n =
    flag_member (codes "failed") (is_failure n) ++ (text_member (codes "id") n.id ++ (number_member (codes "interval") n.result.interval
    ++ text_member (codes "key") (key_text n.id n.result.action n.result.interval)))

-- the name of the exit code, and how the action ended
abbrev pub timed_how : Ended → List Token
timed_how e = text_member (codes "name") (name_read (outcome_code e.outcome)) ++ text_member (codes "outcome") (outcome_word e.outcome)

-- the member for a process that is still alive, and that for a signal, where there is one
abbrev pub lives_tokens : Option ℕ → List Token
lives_tokens None = []
lives_tokens (Some pid) = number_member (codes "lives") pid

abbrev pub signal_tokens : Option ℕ → List Token
signal_tokens None = []
signal_tokens (Some signal) = number_member (codes "signal") signal
