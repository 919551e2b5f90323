-- Names and values of a line. An invalid name is refused as bad-name, a value outside its range as bad-value.
use Rattle.std.specs.Prelude.{ℕ, ◌&&◌, ◌^◌, nat_le, nat_lt, List, length, Bool, Option, None, Some, option_and_then, option_map, Result, Ok, Err, if◌then◌else◌}
use Rattle.std.specs.Option.{ok_or}
use Rattle.std.specs.List.{list_all}
use Rattle.ocf_types.specs.Limits.{num_max, params_limit}
use Rattle.ocf_types.specs.Names.{is_param_name}
use Rattle.ocf_types.specs.Params.{ParamList}
use Rattle.ocf_types.specs.Values.{is_param_value}
use Rattle.ocf_types.specs.Actions.{action_named, level_numbered, task_of}
use Rattle.ocf_types.specs.Expected.{expect_of_code}
use Rattle.ocf_types.specs.declared.action.Check.{Check}
use Rattle.ocf_types.specs.declared.action.Task.{Task}
use Rattle.ocf_model.specs.declared.refusal.Refusal.{Refusal}
use Rattle.ocf_model.specs.declared.refusal.Refusal.TheVariants.{BadName, BadValue}
use Rattle.exec_commands.specs.Keys.{given}

-- a text that is a valid name, or a refusal
abbrev pub named : (List ℕ → Bool) → List ℕ → Result (List ℕ) Refusal
named is_name text = if is_name text then Ok text else Err BadName

-- a value in its range, or a refusal
abbrev pub valued : {A : Type 0} → Option A → Result A Refusal
valued found = ok_or found BadValue

-- parameters whose names are valid
abbrev pub are_names : ParamList → Bool
are_names ps = list_all (λ p. is_param_name p.0) ps

abbrev pub named_params : ParamList → Result ParamList Refusal
named_params ps = if are_names ps then Ok ps else Err BadName

-- at most 64 parameters, with valid values
abbrev pub valued_params : ParamList → Result ParamList Refusal
valued_params ps = if nat_le (length ps) params_limit && list_all (λ p. is_param_value p.1) ps then Ok ps else Err BadValue

-- parameters: their names are checked before their values
abbrev pub params_of : ParamList → Result ParamList Refusal
params_of ps = given (named_params ps) valued_params

-- the check with this number of a level and this expected exit code
abbrev pub check_numbered : ℕ → ℕ → Option Check
check_numbered level code =
    option_and_then (λ l. option_map (λ x. record { level = l; expect = x }) (expect_of_code code)) (level_numbered level)

abbrev pub check_of : ℕ → ℕ → Result Check Refusal
check_of level code = valued (check_numbered level code)

-- the task of an action, by its name, with this number of a level and expected exit code: only a monitor has ones other than 0
abbrev pub task_named : List ℕ → ℕ → ℕ → Result Task Refusal
task_named word level code = valued (option_and_then (λ a. option_and_then (task_of a) (check_numbered level code)) (action_named word))

-- from 1 to 4,294,967,295 milliseconds
abbrev pub millis_of : ℕ → Result ℕ Refusal
millis_of n = if nat_le 1 n && nat_lt n (2 ^ 32) then Ok n else Err BadValue

-- a call id, from 1 to 9,007,199,254,740,991
abbrev pub call_of : ℕ → Result ℕ Refusal
call_of n = if nat_le 1 n && nat_le n num_max then Ok n else Err BadValue

-- the limits of a drain, and of a request for metadata in a `serve` session, if the line names none, and the greatest limit that a line
-- may name, a day; in milliseconds
abbrev pub default_limit : ℕ
default_limit = 60000

abbrev pub default_meta_limit : ℕ
default_meta_limit = 30000

abbrev pub longest_limit : ℕ
longest_limit = 86400000

abbrev pub limit_of : ℕ → Result ℕ Refusal
limit_of n = if nat_le n longest_limit then Ok n else Err BadValue

-- the limit, if one is named
abbrev pub limit_if_named : Option ℕ → Result (Option ℕ) Refusal
limit_if_named None = Ok None
limit_if_named (Some n) = given (limit_of n) (λ limit. Ok (Some limit))
