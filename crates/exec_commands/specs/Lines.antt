-- The request of a line, over its JSON value. Of each line the presence and types of all keys are checked first, then all names,
-- and then all values.
use Rattle.std.specs.Prelude.{ℕ, ◌&&◌, nat_le, List, [], ◌∷◌, length, Option, None, Some, Result, Ok, if◌then◌else◌, codes}
use Rattle.std.specs.Option.{option_map, option_or, ok_or}
use Rattle.std.specs.List.{find}
use Rattle.std.specs.Str.{bytes_eq, is_utf8}
use Rattle.serde_json.specs.Data.{Data}
use Rattle.serde_json.specs.Read.{read}
use Rattle.ocf_types.specs.Limits.{default_timeout, line_limit}
use Rattle.ocf_types.specs.Names.{is_rsc_id, is_provider, is_agent_type}
use Rattle.ocf_types.specs.Kinds.{Command}
use Rattle.ocf_types.specs.declared.command.CommandOf.TheVariants as command
use Rattle.ocf_types.specs.declared.command.Question.{Question}
use Rattle.ocf_types.specs.declared.command.Question.TheVariants as question
use Rattle.ocf_types.specs.declared.command.RequestOf.TheVariants as request
use Rattle.ocf_model.specs.declared.refusal.Refusal.{Refusal}
use Rattle.ocf_model.specs.declared.refusal.Refusal.TheVariants.{UnknownOp}
use Rattle.exec_commands.specs.Keys.{given, typed, text_at, number_at, number_or, number_there, params_at, params_if_there}
use Rattle.exec_commands.specs.Values.{named, params_of, check_of, task_named, millis_of, call_of, limit_of, limit_if_named}
use Rattle.exec_commands.specs.Values.{default_limit, default_meta_limit}
use Rattle.exec_commands.specs.declared.line.Line.{Line}
use Rattle.exec_commands.specs.declared.line.Line.TheVariants as line
use Rattle.exec_commands.specs.declared.operation.Operation.{Operation}
use Rattle.exec_commands.specs.declared.operation.Operation.TheVariants as operation

-- the id of a line that has no other key
abbrev pub id_in : Data → Result (List ℕ) Refusal
id_in d = given (text_at (codes "id") d) (named is_rsc_id)

abbrev pub register_in : Data → Result Command Refusal
register_in d =
    given (text_at (codes "id") d) (λ id. given (text_at (codes "provider") d) (λ provider. given (text_at (codes "type") d) (λ agent.
    given (params_if_there d) (λ params.
    given (named is_rsc_id id) (λ id. given (named is_provider provider) (λ provider. given (named is_agent_type agent) (λ agent.
    given (params_of params) (λ params.
    Ok (command.Register (record { id = id; provider = provider; agent = agent; params = params }))))))))))

abbrev pub set_params_in : Data → Result Command Refusal
set_params_in d =
    given (text_at (codes "id") d) (λ id. given (params_at d) (λ params.
    given (named is_rsc_id id) (λ id. given (params_of params) (λ params.
    Ok (command.SetParams id params)))))

-- a line that names no timeout has one of 20,000 milliseconds
abbrev pub exec_in : Data → Result Command Refusal
exec_in d =
    given (text_at (codes "id") d) (λ id. given (text_at (codes "action") d) (λ word.
    given (number_or default_timeout (codes "timeout") d) (λ timeout. given (number_or 0 (codes "level") d) (λ level.
    given (number_or 0 (codes "expect") d) (λ code.
    given (named is_rsc_id id) (λ id.
    given (task_named word level code) (λ task. given (millis_of timeout) (λ timeout.
    Ok (command.Exec id task timeout)))))))))

abbrev pub recur_in : Data → Result Command Refusal
recur_in d =
    given (text_at (codes "id") d) (λ id. given (number_at (codes "interval") d) (λ interval.
    given (number_or default_timeout (codes "timeout") d) (λ timeout. given (number_or 0 (codes "level") d) (λ level.
    given (number_or 0 (codes "expect") d) (λ code.
    given (named is_rsc_id id) (λ id.
    given (millis_of interval) (λ interval. given (millis_of timeout) (λ timeout. given (check_of level code) (λ check.
    Ok (command.Recur id interval timeout check))))))))))

abbrev pub cancel_in : Data → Result Command Refusal
cancel_in d =
    given (text_at (codes "id") d) (λ id. given (number_at (codes "interval") d) (λ interval.
    given (named is_rsc_id id) (λ id.
    given (millis_of interval) (λ interval.
    Ok (command.Cancel id interval)))))

abbrev pub withdraw_in : Data → Result Command Refusal
withdraw_in d =
    given (text_at (codes "id") d) (λ id. given (number_at (codes "call") d) (λ call.
    given (named is_rsc_id id) (λ id.
    given (call_of call) (λ call.
    Ok (command.Withdraw id call)))))

-- a drain that names no limit has one of 60,000 milliseconds
abbrev pub drain_in : Data → Result Line Refusal
drain_in d = given (number_or default_limit (codes "limit") d) (λ limit. given (limit_of limit) (λ limit. Ok (line.Drain limit)))

-- a watch names its limit
abbrev pub watch_in : Data → Result Line Refusal
watch_in d = given (number_at (codes "limit") d) (λ limit. given (millis_of limit) (λ limit. Ok (line.Watch limit)))

-- a request for metadata that names no limit has none; a value under that key that is no number is ignored
abbrev pub meta_in : Data → Result Line Refusal
meta_in d =
    given (text_at (codes "provider") d) (λ provider. given (text_at (codes "type") d) (λ agent.
    given (named is_provider provider) (λ provider. given (named is_agent_type agent) (λ agent.
    given (limit_if_named (number_there (codes "limit") d)) (λ limit.
    Ok (line.Meta provider agent limit))))))

-- a command, and a question, as a line
abbrev pub commanded : Result Command Refusal → Result Line Refusal
commanded found = given found (λ c. Ok (line.Request (request.Command c)))

abbrev pub asked : Result Question Refusal → Result Line Refusal
asked found = given found (λ q. Ok (line.Request (request.Question q)))

-- the names of commands, and of the other operations
abbrev pub command_words : List (List ℕ × Operation)
command_words =
    (codes "register", operation.Register) ∷ (codes "unregister", operation.Unregister) ∷ (codes "params", operation.SetParams)
    ∷ (codes "exec", operation.Exec) ∷ (codes "recur", operation.Recur) ∷ (codes "cancel", operation.Cancel)
    ∷ (codes "withdraw", operation.Withdraw) ∷ (codes "forget", operation.Forget) ∷ []

abbrev pub other_words : List (List ℕ × Operation)
other_words =
    (codes "list", operation.List) ∷ (codes "info", operation.Info) ∷ (codes "history", operation.History)
    ∷ (codes "drain", operation.Drain) ∷ (codes "watch", operation.Watch) ∷ (codes "meta", operation.Meta)
    ∷ (codes "tidy", operation.Tidy) ∷ []

-- the operation that a word has in a table, if it is there
abbrev pub operation_in : List (List ℕ × Operation) → List ℕ → Option Operation
operation_in words word = option_map (λ row. row.1) (find (λ row. bytes_eq word row.0) words)

-- the operation of a word, if there is one
abbrev pub operation_named : List ℕ → Option Operation
operation_named word = option_or (operation_in command_words word) (operation_in other_words word)

-- the request of a line of this operation
abbrev pub line_for : Operation → Data → Result Line Refusal
line_for operation.Register d = commanded (register_in d)
line_for operation.Unregister d = commanded (given (id_in d) (λ id. Ok (command.Unregister id)))
line_for operation.SetParams d = commanded (set_params_in d)
line_for operation.Exec d = commanded (exec_in d)
line_for operation.Recur d = commanded (recur_in d)
line_for operation.Cancel d = commanded (cancel_in d)
line_for operation.Withdraw d = commanded (withdraw_in d)
line_for operation.Forget d = commanded (given (id_in d) (λ id. Ok (command.Forget id)))
line_for operation.List d = asked (Ok question.List)
line_for operation.Info d = asked (given (id_in d) (λ id. Ok (question.Info id)))
line_for operation.History d = asked (given (id_in d) (λ id. Ok (question.History id)))
line_for operation.Drain d = drain_in d
line_for operation.Watch d = watch_in d
line_for operation.Meta d = meta_in d
line_for operation.Tidy d = Ok line.Tidy

-- the request of a JSON value, or the first refusal
abbrev pub line_of : Data → Result Line Refusal
line_of d = given (text_at (codes "op") d) (λ word. given (ok_or (operation_named word) UnknownOp) (λ o. line_for o d))

-- the JSON value of a line: `None` if the line is too long, is not UTF-8, or is no JSON that serde_json reads
abbrev pub value_of : List ℕ → Option Data
value_of bytes = if nat_le (length bytes) line_limit && is_utf8 bytes then read bytes else None

-- the request of the bytes of a line, or the first refusal
abbrev pub line_read : List ℕ → Result Line Refusal
line_read bytes = given (typed (value_of bytes)) line_of

-- a request for metadata in a `serve` session, which has 30,000 milliseconds if it names no limit
abbrev pub served_meta_in : Data → Result Line Refusal
served_meta_in d =
    given (text_at (codes "provider") d) (λ provider. given (text_at (codes "type") d) (λ agent.
    given (number_or default_meta_limit (codes "limit") d) (λ limit.
    given (named is_provider provider) (λ provider. given (named is_agent_type agent) (λ agent.
    given (limit_of limit) (λ limit.
    Ok (line.Meta provider agent (Some limit))))))))

-- the request of a JSON value in a `serve` session, which also has operations for an orderly end, the version, and the status of all
-- resources
abbrev pub served_for : List ℕ → Data → Result Line Refusal
served_for word d =
    if bytes_eq word (codes "leave") then Ok line.Leave
    else (if bytes_eq word (codes "version") then Ok line.Version
    else (if bytes_eq word (codes "status") then Ok line.Status
    else (if bytes_eq word (codes "meta") then served_meta_in d else line_of d)))

abbrev pub served_line_of : Data → Result Line Refusal
served_line_of d = given (text_at (codes "op") d) (λ word. served_for word d)
