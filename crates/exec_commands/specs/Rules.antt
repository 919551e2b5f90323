-- The table of the keys that the lines of an operation have in a `serve` session.
use Rattle.std.specs.Prelude.{ℕ, ◌||◌, Bool, true, false, List, [], ◌∷◌, Option, Some, option_map, option_and_then, if◌then◌else◌, codes}
use Rattle.std.specs.List.{list_any}
use Rattle.std.specs.Str.{bytes_eq}
use Rattle.serde_json.specs.Data.{Data}
use Rattle.serde_json.specs.Find.{get, as_str}
use Rattle.exec_commands.specs.LineKeys.{key_word}
use Rattle.exec_commands.specs.declared.key.Key.{Key}
use Rattle.exec_commands.specs.declared.key.Key.TheVariants as key
use Rattle.exec_commands.specs.Lines.{operation_named}
use Rattle.exec_commands.specs.declared.operation.Operation.{Operation}
use Rattle.exec_commands.specs.declared.operation.Operation.TheVariants as operation
use Rattle.exec_commands.specs.declared.rules.KeyRule.{KeyRule}
use Rattle.exec_commands.specs.declared.rules.KeyRule.TheVariants.{Needed, Free}

-- the key of a rule
abbrev pub key_in : KeyRule → Key
key_in (Needed k) = k
key_in (Free k) = k

-- the key of a rule is required
abbrev pub is_needed : KeyRule → Bool
is_needed (Needed k) = true
is_needed (Free k) = false

-- the keys of an operation's lines besides `op` and `tag`, in the order in which they are checked
abbrev pub rules_of : Operation → List KeyRule
rules_of operation.Register = Needed key.Id ∷ Needed key.Provider ∷ Needed key.Type ∷ Free key.Params ∷ []
rules_of operation.Unregister = Needed key.Id ∷ []
rules_of operation.SetParams = Needed key.Id ∷ Needed key.Params ∷ []
rules_of operation.Exec = Needed key.Id ∷ Needed key.Action ∷ Free key.Timeout ∷ Free key.Level ∷ Free key.Expect ∷ []
rules_of operation.Recur = Needed key.Id ∷ Needed key.Interval ∷ Free key.Timeout ∷ Free key.Level ∷ Free key.Expect ∷ []
rules_of operation.Cancel = Needed key.Id ∷ Needed key.Interval ∷ []
rules_of operation.Withdraw = Needed key.Id ∷ Needed key.Call ∷ []
rules_of operation.Forget = Needed key.Id ∷ []
rules_of operation.List = []
rules_of operation.Info = Needed key.Id ∷ []
rules_of operation.History = Needed key.Id ∷ []
rules_of operation.Drain = Free key.Limit ∷ []
rules_of operation.Watch = Needed key.WatchLimit ∷ []
rules_of operation.Meta = Needed key.Provider ∷ Needed key.Type ∷ Free key.Limit ∷ []
rules_of operation.Tidy = []

-- a word names an operation of `serve` sessions alone, whose lines have no keys of their own
abbrev pub is_of_service : List ℕ → Bool
is_of_service word = bytes_eq word (codes "leave") || bytes_eq word (codes "version") || bytes_eq word (codes "status")

-- the keys of the operation with this name; `None` if there is none
abbrev pub rules_named : List ℕ → Option (List KeyRule)
rules_named word = if is_of_service word then Some [] else option_map rules_of (operation_named word)

-- the keys of the operation that a line names; `None` if it names no operation
abbrev pub rules_in : Data → Option (List KeyRule)
rules_in d = option_and_then rules_named (option_and_then as_str (get (codes "op") d))

-- a key of these rules has this name
abbrev pub is_one_of : List KeyRule → List ℕ → Bool
is_one_of rules name = list_any (λ r. bytes_eq name (key_word (key_in r))) rules

-- a key is `op`, `tag` or one of these
abbrev pub is_known : List KeyRule → List ℕ → Bool
is_known rules name = bytes_eq name (codes "op") || bytes_eq name (codes "tag") || is_one_of rules name
