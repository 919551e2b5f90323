-- The command line after adding arguments and subcommands, and the result of a parse.
use Rattle.std.proofs.Common.{◌≡◌, ◌+◌, ◌<◌, ℕ, Bool, false, ◌||◌, List, [], ◌∷◌, Option, Some, None, get_or, length, map, take, option_map, refl, ap, ap₂, ◌∙◌, sym}
use Rattle.std.proofs.Common.{Result, Ok, Err, IfOk, subst}
use Rattle.std.proofs.Math.Bool.{or-false}
use Rattle.std.proofs.lemmas.List.{map_more}
use Rattle.std.proofs.lemmas.List.Sums.{fold-append}
use Rattle.std.proofs.lemmas.Option.{none-some}
use Rattle.clap.specs.Words.{App, Row, Rule, Text, AddsArg, AddsSubcommand, app_of, rule_of, subcommand_rows_of, subcommand_name_of}
use Rattle.clap.specs.Words.{with_rule, with_subcommand}
use Rattle.clap.specs.declared.builder.command.Command.{Command}
use Rattle.clap.specs.declared.builder.command.Command.TheViews.{out-Command}
use Rattle.clap.specs.declared.builder.arg.Arg.{Arg}
use Rattle.clap.specs.declared.parser.matches.ArgMatches.{ArgMatches}
use Rattle.ocf_types.specs.Lemmas.{some_is}
use Rattle.exec_options.specs.declared.table.Argument.{Argument}
use Rattle.exec_options.specs.App.{rule_for, with_rules}
use Rattle.clap.specs.declared.parser.matches.ArgMatches.TheViews.{out-ArgMatches}

pub app-arg : (old : Command) (a : Arg) (new : Command) (r : Rule) (app : App) → AddsArg old a new → a.global ≡ false → rule_of a ≡ r
    → app_of old ≡ app → app_of new ≡ with_rule app r
app-arg old a new r app h l e f = h.shape l ∙ ap₂ with_rule f e

pub local-arg : (old : Command) (a : Arg) (new : Command) (g : Bool) → AddsArg old a new → a.global ≡ false
    → (out-Command old).has_globals ≡ g → (out-Command new).has_globals ≡ g
local-arg old a new g h l f = h.globals ∙ ap₂ (λ x y. x || y) f l ∙ or-false g

-- a fact about what a call returned, if it succeeded
pub ok_at : {X E : Type 0} (P : X → Type 0) (r : Result X E) (x : X) → r ≡ Ok x → IfOk r P → P x
ok_at P (Ok y) x is h = let same : y ≡ x = cc in subst P same h
ok_at P (Err e) x is h = absurd cc

pub app-sub : (old sub new : Command) (app s : App) → AddsSubcommand old sub new → (out-Command sub).has_globals ≡ false → app_of sub ≡ s
    → app_of old ≡ app → app_of new ≡ with_subcommand app s.top
app-sub old sub new app s h l e f = h.shape l ∙ ap₂ with_subcommand f (ap (λ (a : App). a.top) e)

-- one argument more of a group
pub added_rules : (group : List Argument) (i : ℕ) (x : Argument) (first : App) (old : Command) (a : Arg) (new : Command)
    → i < length group → AddsArg old a new → a.global ≡ false → rule_of a ≡ rule_for (get_or group i x)
    → app_of old ≡ with_rules first (map rule_for (take i group))
    → app_of new ≡ with_rules first (map rule_for (take (i + 1) group))
added_rules group i x first old a new h adds local is so_far =
    app-arg old a new (rule_for (get_or group i x)) (with_rules first (map rule_for (take i group))) adds local is so_far
    ∙ sym (fold-append with_rule first (map rule_for (take i group)) (rule_for (get_or group i x) ∷ []))
    ∙ ap (with_rules first) (sym (map_more rule_for group i x h))

pub both_parts : {A B : Type 0} (o : Option (A × B)) (a : A) (b : B) → Some a ≡ option_map (λ p. p.0) o → Some b ≡ option_map (λ p. p.1) o
    → o ≡ Some (a, b)
both_parts None a b e f = absurd (none-some a (sym e))
both_parts (Some p) a b e f = sym (ap₂ (λ x y. Some (x, y)) (some_is _ _ e) (some_is _ _ f))

first_part : {A X Y : Type 0} (f : A → X) (g : A → Y) (o : Option A)
    → option_map f o ≡ option_map (λ (p : X × Y). p.0) (option_map (λ a. (f a, g a)) o)
first_part f g None = refl
first_part f g (Some a) = refl

pub name_in_rows : (m : ArgMatches) → subcommand_name_of m ≡ option_map (λ (p : Text × List Row). p.0) (subcommand_rows_of m)
name_in_rows m = first_part _ _ (out-ArgMatches m).subcommand
