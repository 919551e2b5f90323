-- The commands that lines ask for have valid names.
use Rattle.std.proofs.Common.{◌≡◌, ℕ, Bool, true, false, cond, List, Option, Some, None, Result, Ok, Err, IfOk, codes, refl, sym, subst}
use Rattle.std.specs.Option.{ok_or, option_map_or}
use Rattle.std.specs.Str.{bytes_eq}
use Rattle.serde_json.specs.Data.{Data}
use Rattle.ocf_types.specs.Kinds.{Command}
use Rattle.ocf_types.specs.Limits.{default_timeout}
use Rattle.ocf_types.specs.Names.{is_agent_type, is_provider, is_rsc_id}
use Rattle.ocf_types.specs.declared.command.CommandOf.TheVariants as command
use Rattle.ocf_types.specs.declared.command.Question.{Question}
use Rattle.ocf_types.specs.declared.command.Question.TheVariants as question
use Rattle.ocf_model.specs.declared.refusal.Refusal.{Refusal}
use Rattle.ocf_model.specs.declared.refusal.Refusal.TheVariants.{BadName, BadValue, Syntax, UnknownOp}
use Rattle.exec_commands.specs.declared.key.Key.TheVariants.{Tag}
use Rattle.exec_commands.specs.declared.refused.About.TheVariants as about
use Rattle.exec_commands.specs.Blame.{unknown_key}
use Rattle.exec_commands.specs.Keys.{given, number_at, number_or, number_there, params_at, params_if_there, text_at, typed}
use Rattle.exec_commands.specs.Lines.{asked, cancel_in, commanded, drain_in, exec_in, id_in, line_for, line_of, line_read, meta_in, operation_named, recur_in, register_in, served_for, served_line_of, served_meta_in, set_params_in, value_of, watch_in, withdraw_in}
use Rattle.exec_commands.specs.Served.{IsServedAs, known_line, line_from, refused_line, served_line, served_read, tagged_line}
use Rattle.exec_commands.specs.Tags.{is_mistagged}
use Rattle.exec_commands.specs.Twice.{HasKeyTwice}
use Rattle.exec_commands.specs.Values.{call_of, check_of, default_limit, default_meta_limit, limit_if_named, limit_of, millis_of, named, params_of, task_named}
use Rattle.exec_commands.specs.declared.line.Line.{Line}
use Rattle.exec_commands.specs.declared.line.Line.TheVariants as line
use Rattle.exec_commands.specs.declared.operation.Operation.{Operation}
use Rattle.exec_commands.specs.declared.operation.Operation.TheVariants as operation
use Rattle.session_laws.specs.Named.{IsNamed, IsNamedLine, IsNamedRead}

-- a property of what follows a value that was read, and a name
given_if : {A B : Type 0} (P : B → Type 0) (found : Result A Refusal) (follows : A → Result B Refusal) → ((a : A) → IfOk (follows a) P)
    → IfOk (given found follows) P
given_if P (Ok a) follows holds = holds a
given_if P (Err why) follows holds = tt

named_if : {B : Type 0} (P : B → Type 0) (is_name : List ℕ → Bool) (text : List ℕ) (follows : List ℕ → Result B Refusal)
    → (is_name text ≡ true → IfOk (follows text) P) → IfOk (given (named is_name text) follows) P
named_if P is_name text follows holds = by (is_name text) holds
  where
    by : (b : Bool) → (b ≡ true → IfOk (follows text) P) → IfOk (given (cond b (Ok text) (Err BadName)) follows) P
    by true holds = holds refl
    by false holds = tt

-- the command of each operation
register_named : (d : Data) → IfOk (register_in d) IsNamed
register_named d =
    given_if IsNamed (text_at (codes "id") d) _ (λ id. given_if IsNamed (text_at (codes "provider") d) _ (λ provider.
    given_if IsNamed (text_at (codes "type") d) _ (λ agent. given_if IsNamed (params_if_there d) _ (λ params.
    named_if IsNamed is_rsc_id id _ (λ is_id. named_if IsNamed is_provider provider _ (λ is_provided.
    named_if IsNamed is_agent_type agent _ (λ is_agent. given_if IsNamed (params_of params) _ (λ ps. (is_id, is_provided, is_agent)))))))))

id_named : (follows : List ℕ → Command) (d : Data) → ((id : List ℕ) → is_rsc_id id ≡ true → IsNamed (follows id))
    → IfOk (given (id_in d) (λ id. Ok (follows id))) IsNamed
id_named follows d holds = by (text_at (codes "id") d)
  where
    named_so : (b : Bool) (id : List ℕ) → is_rsc_id id ≡ b → IfOk (given (cond b (Ok id) (Err BadName)) (λ id. Ok (follows id))) IsNamed
    named_so true id is = holds id is
    named_so false id is = tt

    by : (o : Result (List ℕ) Refusal) → IfOk (given (given o (named is_rsc_id)) (λ id. Ok (follows id))) IsNamed
    by (Ok id) = named_so (is_rsc_id id) id refl
    by (Err why) = tt

set_params_named : (d : Data) → IfOk (set_params_in d) IsNamed
set_params_named d =
    given_if IsNamed (text_at (codes "id") d) _ (λ id. given_if IsNamed (params_at d) _ (λ params.
    named_if IsNamed is_rsc_id id _ (λ is_id. given_if IsNamed (params_of params) _ (λ params. is_id))))

exec_named : (d : Data) → IfOk (exec_in d) IsNamed
exec_named d =
    given_if IsNamed (text_at (codes "id") d) _ (λ id. given_if IsNamed (text_at (codes "action") d) _ (λ word.
    given_if IsNamed (number_or default_timeout (codes "timeout") d) _ (λ timeout. given_if IsNamed (number_or 0 (codes "level") d) _ (λ level.
    given_if IsNamed (number_or 0 (codes "expect") d) _ (λ code. named_if IsNamed is_rsc_id id _ (λ is_id.
    given_if IsNamed (task_named word level code) _ (λ task. given_if IsNamed (millis_of timeout) _ (λ timeout. is_id))))))))

recur_named : (d : Data) → IfOk (recur_in d) IsNamed
recur_named d =
    given_if IsNamed (text_at (codes "id") d) _ (λ id. given_if IsNamed (number_at (codes "interval") d) _ (λ interval.
    given_if IsNamed (number_or default_timeout (codes "timeout") d) _ (λ timeout. given_if IsNamed (number_or 0 (codes "level") d) _ (λ level.
    given_if IsNamed (number_or 0 (codes "expect") d) _ (λ code. named_if IsNamed is_rsc_id id _ (λ is_id.
    given_if IsNamed (millis_of interval) _ (λ interval. given_if IsNamed (millis_of timeout) _ (λ timeout.
    given_if IsNamed (check_of level code) _ (λ check. is_id)))))))))

cancel_named : (d : Data) → IfOk (cancel_in d) IsNamed
cancel_named d =
    given_if IsNamed (text_at (codes "id") d) _ (λ id. given_if IsNamed (number_at (codes "interval") d) _ (λ interval.
    named_if IsNamed is_rsc_id id _ (λ is_id. given_if IsNamed (millis_of interval) _ (λ interval. is_id))))

withdraw_named : (d : Data) → IfOk (withdraw_in d) IsNamed
withdraw_named d =
    given_if IsNamed (text_at (codes "id") d) _ (λ id. given_if IsNamed (number_at (codes "call") d) _ (λ call.
    named_if IsNamed is_rsc_id id _ (λ is_id. given_if IsNamed (call_of call) _ (λ call. is_id))))

-- the lines of commands, of questions and of the other operations
commanded_named : (found : Result Command Refusal) → IfOk found IsNamed → IsNamedRead (commanded found)
commanded_named (Ok c) holds = holds
commanded_named (Err why) holds = tt

asked_named : (found : Result Question Refusal) → IsNamedRead (asked found)
asked_named (Ok q) = tt
asked_named (Err why) = tt

drain_named : (d : Data) → IsNamedRead (drain_in d)
drain_named d = given_if IsNamedLine (number_or default_limit (codes "limit") d) _ (λ limit. given_if IsNamedLine (limit_of limit) _ (λ limit. tt))

watch_named : (d : Data) → IsNamedRead (watch_in d)
watch_named d = given_if IsNamedLine (number_at (codes "limit") d) _ (λ limit. given_if IsNamedLine (millis_of limit) _ (λ limit. tt))

meta_named : (d : Data) → IsNamedRead (meta_in d)
meta_named d =
    given_if IsNamedLine (text_at (codes "provider") d) _ (λ provider. given_if IsNamedLine (text_at (codes "type") d) _ (λ agent.
    given_if IsNamedLine (named is_provider provider) _ (λ p. given_if IsNamedLine (named is_agent_type agent) _ (λ a.
    given_if IsNamedLine (limit_if_named (number_there (codes "limit") d)) _ (λ limit. tt)))))

served_meta_named : (d : Data) → IsNamedRead (served_meta_in d)
served_meta_named d =
    given_if IsNamedLine (text_at (codes "provider") d) _ (λ provider. given_if IsNamedLine (text_at (codes "type") d) _ (λ agent.
    given_if IsNamedLine (number_or default_meta_limit (codes "limit") d) _ (λ limit.
    given_if IsNamedLine (named is_provider provider) _ (λ p. given_if IsNamedLine (named is_agent_type agent) _ (λ a.
    given_if IsNamedLine (limit_of limit) _ (λ limit. tt))))))

for_named : (o : Operation) (d : Data) → IsNamedRead (line_for o d)
for_named operation.Register d = commanded_named (register_in d) (register_named d)
for_named operation.Unregister d = commanded_named _ (id_named command.Unregister d (λ id is_id. is_id))
for_named operation.SetParams d = commanded_named (set_params_in d) (set_params_named d)
for_named operation.Exec d = commanded_named (exec_in d) (exec_named d)
for_named operation.Recur d = commanded_named (recur_in d) (recur_named d)
for_named operation.Cancel d = commanded_named (cancel_in d) (cancel_named d)
for_named operation.Withdraw d = commanded_named (withdraw_in d) (withdraw_named d)
for_named operation.Forget d = commanded_named _ (id_named command.Forget d (λ id is_id. is_id))
for_named operation.List d = asked_named (Ok question.List)
for_named operation.Info d = asked_named (given (id_in d) (λ id. Ok (question.Info id)))
for_named operation.History d = asked_named (given (id_in d) (λ id. Ok (question.History id)))
for_named operation.Drain d = drain_named d
for_named operation.Watch d = watch_named d
for_named operation.Meta d = meta_named d
for_named operation.Tidy d = tt

of_named : (d : Data) → IsNamedRead (line_of d)
of_named d =
    given_if IsNamedLine (text_at (codes "op") d) _
    (λ word. given_if IsNamedLine (ok_or (operation_named word) UnknownOp) (λ o. line_for o d) (λ o. for_named o d))

-- a line in `run`
pub read_named : (bytes : List ℕ) → IsNamedRead (line_read bytes)
read_named bytes = given_if IsNamedLine (typed (value_of bytes)) line_of of_named

-- a line in `serve`
either_named : (b : Bool) (one other : Result Line Refusal) → IsNamedRead one → IsNamedRead other → IsNamedRead (cond b one other)
either_named true one other first second = first
either_named false one other first second = second

served_for_named : (word : List ℕ) (d : Data) → IsNamedRead (served_for word d)
served_for_named word d =
    either_named (bytes_eq word (codes "leave")) (Ok line.Leave) _ tt
    (either_named (bytes_eq word (codes "version")) (Ok line.Version) _ tt
    (either_named (bytes_eq word (codes "status")) (Ok line.Status) _ tt
    (either_named (bytes_eq word (codes "meta")) (served_meta_in d) (line_of d) (served_meta_named d) (of_named d))))

tagged_named : (d : Data) (l : Line) → IsNamedLine l → IsNamedLine (tagged_line d l)
tagged_named d l holds = by (is_mistagged d)
  where
    by : (b : Bool) → IsNamedLine (cond b (refused_line BadValue (about.Key Tag)) l)
    by true = tt
    by false = holds

known_named : (d : Data) (l : Line) → IsNamedLine l → IsNamedLine (known_line d l)
known_named d l holds = by (unknown_key d)
  where
    by : (o : Option (List ℕ)) → IsNamedLine (option_map_or (λ name. refused_line BadValue (about.Unknown name)) o (tagged_line d l))
    by (Some name) = tt
    by None = tagged_named d l holds

from_named : (d : Data) (found : Result Line Refusal) → IsNamedRead found → IsNamedLine (line_from d found)
from_named d (Ok l) holds = known_named d l holds
from_named d (Err why) holds = tt

served_named : (bytes : List ℕ) → IsNamedLine (served_read bytes)
served_named bytes = by (value_of bytes)
  where
    by : (o : Option Data) → IsNamedLine (option_map_or served_line o (refused_line Syntax about.Whole))
    by (Some d) = from_named d (served_line_of d) (given_if IsNamedLine (text_at (codes "op") d) (λ word. served_for word d) (λ word. served_for_named word d))
    by None = tt

pub served_as_named : (bytes : List ℕ) (found : Result Line Refusal) → IsServedAs bytes found → IsNamedRead found
served_as_named bytes (Ok (line.Request r)) served =
    let once : HasKeyTwice bytes → ⊥ = λ twice. clash (served.0 twice) in
    subst IsNamedLine (sym (served.1 once)) (served_named bytes)
  where
    clash : line.Request r ≡ refused_line Syntax about.Twice → ⊥
    clash is = cc
served_as_named bytes (Ok (line.Drain limit)) served = tt
served_as_named bytes (Ok (line.Watch limit)) served = tt
served_as_named bytes (Ok line.Tidy) served = tt
served_as_named bytes (Ok line.Leave) served = tt
served_as_named bytes (Ok line.Version) served = tt
served_as_named bytes (Ok line.Status) served = tt
served_as_named bytes (Ok (line.Meta provider agent limit)) served = tt
served_as_named bytes (Ok (line.Refused refusal)) served = tt
served_as_named bytes (Err why) served = tt
