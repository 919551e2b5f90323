-- The members of a result, in two parts.
use Rattle.std.specs.Prelude.{List, [], ◌∷◌, ◌++◌, codes}
use Rattle.json.specs.Token.{Token, begin_object, end_object}
use Rattle.ocf_types.specs.Actions.{action_word}
use Rattle.ocf_types.specs.Outcomes.{outcome_code, outcome_word}
use Rattle.ocf_types.specs.declared.operation.Ended.{Ended}
use Rattle.ocf_codes.specs.ExitCodes.{name_read}
use Rattle.exec_replies.specs.Tokens.{number_member, text_member}

abbrev pub ended_first : Ended → List Token
ended_first e =
    (begin_object ∷ []) ++ (text_member (codes "action") (action_word e.action) ++ (number_member (codes "at") e.at
    ++ (number_member (codes "call") e.call ++ number_member (codes "code") (outcome_code e.outcome))))

abbrev pub ended_rest : Ended → List Token
ended_rest e =
    number_member (codes "interval") e.interval ++ (text_member (codes "name") (name_read (outcome_code e.outcome))
    ++ (text_member (codes "outcome") (outcome_word e.outcome) ++ (number_member (codes "run") e.run
    ++ (number_member (codes "since") e.since ++ (end_object ∷ [])))))
