-- Counts of keys: of a JSON text, by the colons outside its strings, and of a value, by its members.
use Rattle.std.specs.Prelude.{ℕ, suc, ◌+◌, List, [], ◌∷◌, Bool, true, false}
use Rattle.json.specs.Lex.{Lexeme, token, comma, colon, Class, quote, backslash, operator, space}
use Rattle.json.specs.Lex.{Mode, between, in_word, in_string, in_escape}
use Rattle.serde_json.specs.Data.{Data, null, boolean, number, string, array, object, Items, no_items, item, Members, no_members, member}
use Rattle.exec_commands.specs.declared.counts.Place.{Place}
use Rattle.exec_commands.specs.declared.counts.Place.TheVariants as place

-- a colon stands between each key and its value
abbrev pub colons : List Lexeme → ℕ
colons [] = 0
colons (token t ∷ ls) = colons ls
colons (comma ∷ ls) = colons ls
colons (colon ∷ ls) = suc (colons ls)

-- the mode of the lexer after a byte of this class
abbrev pub next_mode : Mode → Class → Mode
next_mode between quote = in_string
next_mode between operator = between
next_mode between space = between
next_mode between _ = in_word
next_mode in_word operator = between
next_mode in_word space = between
next_mode in_word _ = in_word
next_mode in_string quote = between
next_mode in_string backslash = in_escape
next_mode in_string _ = in_string
next_mode in_escape _ = in_string

-- the lexer is in no string
abbrev pub is_outside : Mode → Bool
is_outside between = true
is_outside in_word = true
is_outside in_string = false
is_outside in_escape = false

abbrev pub mode_of : Place → Mode
mode_of place.Between = between
mode_of place.Word = in_word
mode_of place.String = in_string
mode_of place.Escape = in_escape

-- the members of all objects in a value
abbrev mutual
  pub members_in : Data → ℕ
  members_in null = 0
  members_in (boolean b) = 0
  members_in (number n) = 0
  members_in (string s) = 0
  members_in (array ds) = members_in_items ds
  members_in (object ms) = members_in_members ms

  pub members_in_items : Items → ℕ
  members_in_items no_items = 0
  members_in_items (item d ds) = members_in d + members_in_items ds

  pub members_in_members : Members → ℕ
  members_in_members no_members = 0
  members_in_members (member k d ms) = suc (members_in d) + members_in_members ms
