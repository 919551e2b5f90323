-- A `run` session reads no line of `serve` sessions alone.
use Rattle.std.proofs.Common.{◌≡◌, ℕ, true, false, List, Option, Result, Ok, Err, IfOk, codes, refl, subst}
use Rattle.std.specs.Option.{ok_or}
use Rattle.serde_json.specs.Data.{Data}
use Rattle.ocf_types.specs.Kinds.{Command}
use Rattle.ocf_types.specs.Names.{is_provider, is_agent_type}
use Rattle.ocf_types.specs.declared.command.CommandOf.TheVariants as command
use Rattle.ocf_types.specs.declared.command.Question.{Question}
use Rattle.ocf_types.specs.declared.command.Question.TheVariants as question
use Rattle.ocf_types.specs.declared.command.RequestOf.TheVariants as request
use Rattle.ocf_model.specs.declared.refusal.Refusal.{Refusal}
use Rattle.ocf_model.specs.declared.refusal.Refusal.TheVariants.{UnknownOp}
use Rattle.exec_commands.specs.Keys.{given, text_at, number_at, number_or, number_there}
use Rattle.exec_commands.specs.Lines.{asked, commanded, id_in, register_in, set_params_in, exec_in, recur_in, cancel_in, withdraw_in}
use Rattle.exec_commands.specs.Lines.{line_for, line_of, meta_in, operation_named}
use Rattle.exec_commands.specs.Served.{is_service_line}
use Rattle.exec_commands.specs.Values.{default_limit, limit_if_named, limit_of, millis_of, named}
use Rattle.exec_commands.specs.declared.line.Line.{Line}
use Rattle.exec_commands.specs.declared.line.Line.TheVariants as line
use Rattle.exec_commands.specs.declared.operation.Operation.{Operation}
use Rattle.exec_commands.specs.declared.operation.Operation.TheVariants as operation

-- the line is not one of `serve` sessions alone
abbrev Stays : Result Line Refusal → Type 0
Stays found = IfOk found (λ l. is_service_line l ≡ false)

given_stays : {A : Type 0} (found : Result A Refusal) (follows : A → Result Line Refusal) → ((a : A) → Stays (follows a))
    → Stays (given found follows)
given_stays (Ok a) follows stays = stays a
given_stays (Err e) follows stays = tt

commanded_stays : (found : Result Command Refusal) → Stays (commanded found)
commanded_stays found = given_stays found (λ c. Ok (line.Request (request.Command c))) (λ c. refl)

asked_stays : (found : Result Question Refusal) → Stays (asked found)
asked_stays found = given_stays found (λ q. Ok (line.Request (request.Question q))) (λ q. refl)

drain_stays : (limit : ℕ) → Stays (given (limit_of limit) (λ limit. Ok (line.Drain limit)))
drain_stays limit = given_stays (limit_of limit) (λ limit. Ok (line.Drain limit)) (λ l. refl)

watch_stays : (limit : ℕ) → Stays (given (millis_of limit) (λ limit. Ok (line.Watch limit)))
watch_stays limit = given_stays (millis_of limit) (λ limit. Ok (line.Watch limit)) (λ l. refl)

-- a request for metadata, after its provider and its agent
limited_stays : (provider agent : List ℕ) (limit : Option ℕ)
    → Stays (given (limit_if_named limit) (λ limit. Ok (line.Meta provider agent limit)))
limited_stays provider agent limit =
    given_stays (limit_if_named limit) (λ limit. Ok (line.Meta provider agent limit)) (λ l. refl)

meta_stays : (d : Data) → Stays (meta_in d)
meta_stays d =
    given_stays (text_at (codes "provider") d) _ (λ provider. given_stays (text_at (codes "type") d) _ (λ agent.
    given_stays (named is_provider provider) _ (λ p. given_stays (named is_agent_type agent) _ (λ a.
    limited_stays p a (number_there (codes "limit") d)))))

line_stays : (o : Operation) (d : Data) → Stays (line_for o d)
line_stays operation.Register d = commanded_stays (register_in d)
line_stays operation.Unregister d = commanded_stays (given (id_in d) (λ id. Ok (command.Unregister id)))
line_stays operation.SetParams d = commanded_stays (set_params_in d)
line_stays operation.Exec d = commanded_stays (exec_in d)
line_stays operation.Recur d = commanded_stays (recur_in d)
line_stays operation.Cancel d = commanded_stays (cancel_in d)
line_stays operation.Withdraw d = commanded_stays (withdraw_in d)
line_stays operation.Forget d = commanded_stays (given (id_in d) (λ id. Ok (command.Forget id)))
line_stays operation.List d = asked_stays (Ok question.List)
line_stays operation.Info d = asked_stays (given (id_in d) (λ id. Ok (question.Info id)))
line_stays operation.History d = asked_stays (given (id_in d) (λ id. Ok (question.History id)))
line_stays operation.Drain d = given_stays (number_or default_limit (codes "limit") d) _ drain_stays
line_stays operation.Watch d = given_stays (number_at (codes "limit") d) _ watch_stays
line_stays operation.Meta d = meta_stays d
line_stays operation.Tidy d = refl

value_stays : (d : Data) → Stays (line_of d)
value_stays d =
    given_stays (text_at (codes "op") d) _ (λ word. given_stays (ok_or (operation_named word) UnknownOp) _ (λ o. line_stays o d))

-- a line that is read is not one of `serve` sessions alone
pub reads_plain : (d : Data) (found : Result Line Refusal) → IfOk found (λ l. line_of d ≡ Ok l)
    → IfOk found (λ l. is_service_line l ≡ false)
reads_plain d (Ok l) is = subst Stays is (value_stays d)
reads_plain d (Err e) is = tt

pub reads_else : (d : Data) (found : Result Line Refusal) → IfOk found (λ l. line_of d ≡ Ok l) → found ≡ Ok line.Leave → ⊥
reads_else d found is leaves =
    let no : true ≡ false = subst Stays leaves (reads_plain d found is) in
    cc
