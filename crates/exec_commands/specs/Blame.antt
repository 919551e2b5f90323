-- Which key of a refused line is at fault, by the table of the keys and of the values that each may hold.
use Rattle.std.specs.Prelude.{ℕ, ◌==◌, ◌&&◌, ◌||◌, Bool, true, false, not, nat_le, is_none, is_some, List, Option, None, Some}
use Rattle.std.specs.Prelude.{option_map, option_and_then, if◌then◌else◌, codes}
use Rattle.std.specs.List.{find}
use Rattle.std.specs.Option.{option_map_or}
use Rattle.std.specs.Str.{bytes_eq}
use Rattle.serde_json.specs.Data.{Data, Members, no_members, member}
use Rattle.serde_json.specs.Find.{get, as_str, as_object}
use Rattle.ocf_types.specs.Actions.{action_named, level_numbered}
use Rattle.ocf_types.specs.Expected.{expect_of_code}
use Rattle.ocf_types.specs.Names.{is_provider, is_rsc_id}
use Rattle.ocf_model.specs.declared.refusal.Refusal.{Refusal}
use Rattle.ocf_model.specs.declared.refusal.Refusal.TheVariants.{Syntax, BadName, BadValue}
use Rattle.exec_commands.specs.LineKeys.{key_word, range_of}
use Rattle.exec_commands.specs.declared.key.Key.{Key}
use Rattle.exec_commands.specs.declared.key.Key.TheVariants.{Op}
use Rattle.exec_commands.specs.declared.range.Range.{Range}
use Rattle.exec_commands.specs.declared.range.Range.TheVariants as range
use Rattle.exec_commands.specs.declared.refused.About.{About}
use Rattle.exec_commands.specs.declared.refused.About.TheVariants as about
use Rattle.exec_commands.specs.Keys.{natural}
use Rattle.exec_commands.specs.Rules.{is_known, is_needed, key_in, rules_in}
use Rattle.exec_commands.specs.Tags.{tag_in}
use Rattle.exec_commands.specs.declared.rules.KeyRule.{KeyRule}

-- The value of a key has the wrong type. Parameters come last: they are at fault if nothing before them is.
abbrev pub is_mistyped : Range → Data → Bool
is_mistyped (range.Number from to) v = is_none (natural v)
is_mistyped range.Level v = is_none (natural v)
is_mistyped range.Expect v = is_none (natural v)
is_mistyped range.Params v = true
is_mistyped range.Operation v = is_none (as_str v)
is_mistyped range.Id v = is_none (as_str v)
is_mistyped range.Name v = is_none (as_str v)
is_mistyped range.Action v = is_none (as_str v)
is_mistyped range.Tag v = false

-- the value of a key is not a valid name
abbrev pub is_misnamed : Range → Data → Bool
is_misnamed range.Id v = not (option_map_or is_rsc_id (as_str v) false)
is_misnamed range.Name v = not (option_map_or is_provider (as_str v) false)
is_misnamed range.Params v = true
is_misnamed _ v = false

-- the value names an action
abbrev pub is_action : Data → Bool
is_action v = option_map_or (λ word. is_some (action_named word)) (as_str v) false

-- the value is a number in this range
abbrev pub is_between : ℕ → ℕ → Data → Bool
is_between from to v = option_map_or (λ n. nat_le from n && nat_le n to) (natural v) false

-- a line names no action other than a monitor; only a monitor may have a level and an expected code other than 0
abbrev pub is_of_monitor : Data → Bool
is_of_monitor d =
    option_map_or (λ v. option_map_or (λ word. bytes_eq word (codes "monitor")) (as_str v) false) (get (codes "action") d) true

-- the value is a level that this line may have
abbrev pub is_level : Data → Data → Bool
is_level d v = option_map_or (λ n. is_some (level_numbered n) && (n == 0 || is_of_monitor d)) (natural v) false

-- the value is an exit code that this line may expect
abbrev pub is_expect : Data → Data → Bool
is_expect d v = option_map_or (λ n. is_some (expect_of_code n) && (n == 0 || is_of_monitor d)) (natural v) false

-- the value of a key of this line is outside its range
abbrev pub is_outside : Range → Data → Data → Bool
is_outside (range.Number from to) d v = not (is_between from to v)
is_outside range.Level d v = not (is_level d v)
is_outside range.Expect d v = not (is_expect d v)
is_outside range.Action d v = not (is_action v)
is_outside range.Params d v = true
is_outside range.Tag d v = is_none (tag_in v)
is_outside _ d v = false

-- the value of a key of this line is at fault for a refusal of this kind
abbrev pub is_wrong : Refusal → Range → Data → Data → Bool
is_wrong Syntax r d v = is_mistyped r v
is_wrong BadName r d v = is_misnamed r v
is_wrong BadValue r d v = is_outside r d v
is_wrong _ r d v = false

-- an absent key is at fault: it is required
abbrev pub is_missed : Refusal → KeyRule → Bool
is_missed Syntax rule = is_needed rule
is_missed _ rule = false

-- a key of this line, present or absent, is at fault
abbrev pub is_at_fault : Refusal → Data → KeyRule → Bool
is_at_fault why d rule = option_map_or (is_wrong why (range_of (key_in rule)) d) (get (key_word (key_in rule)) d) (is_missed why rule)

-- the first key that is at fault
abbrev pub key_at_fault : Refusal → List KeyRule → Data → Option Key
key_at_fault why rules d = option_map key_in (find (is_at_fault why d) rules)

-- the subject of a line that names no operation: its word, if that is a text of at most 64 bytes
abbrev pub about_operation : Data → About
about_operation d = option_map_or (λ word. about.Operation word) (option_and_then tag_in (get (codes "op") d)) (about.Key Op)

-- the subject of a line's refusal: the first key at fault, or else the whole line; the operation if the line names none
abbrev pub about_for : Refusal → Data → Option (List KeyRule) → About
about_for why d None = about_operation d
about_for why d (Some rules) = option_map_or (λ k. about.Key k) (key_at_fault why rules d) about.Whole

-- the same, from the line alone
abbrev pub about_line : Refusal → Data → About
about_line why d = about_for why d (rules_in d)

-- the first key that these rules do not have
abbrev pub unknown_in : List KeyRule → Members → Option (List ℕ)
unknown_in rules no_members = None
unknown_in rules (member name d ms) = if is_known rules name then unknown_in rules ms else Some name

-- the first key of a line that its operation does not have
abbrev pub unknown_key : Data → Option (List ℕ)
unknown_key d = option_and_then (λ rules. option_and_then (unknown_in rules) (as_object d)) (rules_in d)
