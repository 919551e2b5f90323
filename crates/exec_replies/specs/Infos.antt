-- The members of the reply to `info`, in parts.
use Rattle.std.specs.Prelude.{ℕ, true, List, [], ◌∷◌, ◌++◌, Option, codes}
use Rattle.std.specs.List.{flat_map}
use Rattle.json.specs.Token.{Token, begin_object, end_array, end_object, key}
use Rattle.ocf_types.specs.Actions.{level_number}
use Rattle.ocf_types.specs.Expected.{expect_code}
use Rattle.ocf_model.specs.Answer.{Info}
use Rattle.ocf_types.specs.Params.{ParamList}
use Rattle.ocf_types.specs.declared.operation.Recur.{Recur}
use Rattle.ocf_types.specs.declared.operation.Running.{Running}
use Rattle.exec_replies.specs.Objects.{natural_data}
use Rattle.exec_replies.specs.Replies.{failed_data, recur_data, running_data}
use Rattle.exec_replies.specs.Tokens.{array_member, flag_member, number_member, text_member, value_tokens, values_tokens}

-- each parameter as a member
abbrev pub params_tokens : ParamList → List Token
params_tokens params = flat_map (λ p. text_member p.0 p.1) params

abbrev pub recur_first : Recur → List Token
recur_first m =
    (begin_object ∷ []) ++ (number_member (codes "call") m.call ++ (number_member (codes "expect") (expect_code m.check.expect)
    ++ number_member (codes "interval") m.interval))

abbrev pub recur_rest : Recur → List Token
recur_rest m =
    number_member (codes "level") (level_number m.check.level) ++ (number_member (codes "timeout") m.timeout ++ (end_object ∷ []))

abbrev pub queued_tokens : List ℕ → List Token
queued_tokens calls = array_member (codes "queued") ++ (values_tokens natural_data calls ++ (end_array ∷ []))

abbrev pub recurring_tokens : List Recur → List Token
recurring_tokens monitors = array_member (codes "recurring") ++ (values_tokens recur_data monitors ++ (end_array ∷ []))

abbrev pub running_tokens : List ℕ → Option Running → List Token
running_tokens id running = (key (codes "running") ∷ []) ++ value_tokens (running_data id running)

-- up to the id
abbrev pub info_state : Info → List Token
info_state i =
    (begin_object ∷ []) ++ ((key (codes "failed") ∷ []) ++ (value_tokens (failed_data i.failed) ++ text_member (codes "id") i.id))

-- up to the provider
abbrev pub info_lists : Info → List Token
info_lists i =
    flag_member (codes "ok") true ++ ((key (codes "params") ∷ []) ++ ((begin_object ∷ []) ++ (params_tokens i.params
    ++ ((end_object ∷ []) ++ text_member (codes "provider") i.provider))))

-- what it does
abbrev pub info_more : Info → List Token
info_more i = queued_tokens i.queued.items ++ (recurring_tokens i.recurring.items ++ running_tokens i.id i.running)
