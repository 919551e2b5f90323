-- The command line of `ocfexec`: the arguments of its subcommands, and how `clap` reads them.
use Rattle.std.specs.Prelude.{ℕ, [], ◌∷◌, List, Some, true, codes, fold}
use Rattle.clap.specs.Words.{App, Rule, new_app, new_rule, with_rule, with_subcommand}
use Rattle.clap.specs.declared.builder.ArgAction.TheVariants.{Append, SetTrue}
use Rattle.exec_options.specs.declared.table.Argument.{Argument}
use Rattle.exec_options.specs.declared.table.Form.{Form}
use Rattle.exec_options.specs.declared.table.Form.TheVariants.{Flag, Letter, Text, LetterText, TextOr, Word, Words}
use Rattle.exec_options.specs.declared.table.TheConstants.{ORPHANS, PATH, ROOT, TIDY_AT, TIMEOUT}

-- a flag; an option with a text, or with a default; an argument that is no option, and any number of these; a letter for one of them
abbrev pub flag : List ℕ → Rule
flag name = record (new_rule name) { long = Some name; action = Some SetTrue }

abbrev pub text : List ℕ → Rule
text name = record (new_rule name) { long = Some name; value_names = 1 }

abbrev pub text_or : List ℕ → List ℕ → Rule
text_or name default = record (text name) { defaults = default ∷ [] }

abbrev pub word : List ℕ → Rule
word name = record (new_rule name) { value_names = 1 }

abbrev pub words : List ℕ → Rule
words name = record (word name) { action = Some Append }

abbrev pub by_letter : ℕ → Rule → Rule
by_letter c rule = record rule { short = Some c }

-- the rule of an argument of this name and form
abbrev pub rule_of_form : List ℕ → Form → Rule
rule_of_form name Flag = flag name
rule_of_form name (Letter c) = by_letter c (flag name)
rule_of_form name (Text value) = text name
rule_of_form name (LetterText c value) = by_letter c (text name)
rule_of_form name (TextOr value default) = text_or name default.now
rule_of_form name (Word value) = word name
rule_of_form name (Words value) = words name

abbrev pub rule_for : Argument → Rule
rule_for a = rule_of_form a.name.now a.form

-- a command with these arguments too
abbrev pub with_rules : App → List Rule → App
with_rules app rules = fold with_rule app rules

-- where the journal is, and how it is opened and tidied
abbrev pub location_rules : List Rule
location_rules = text (codes "journal") ∷ (flag (codes "memory") ∷ [])

abbrev pub kept_rules : List Rule
kept_rules = flag (codes "existing") ∷ (flag (codes "any-owner") ∷ (text_or (codes "tidy-at") TIDY_AT.now ∷ []))

-- where the agents are, and how they are called
abbrev pub site_rules : List Rule
site_rules =
    text_or (codes "root") ROOT.now ∷ (text (codes "via") ∷ (text_or (codes "path") PATH.now
    ∷ (flag (codes "meta-variables") ∷ (flag (codes "no-groups") ∷ []))))

-- the output of agents, the lines of results, and what interrupted actions left
abbrev pub agent_rules : List Rule
agent_rules =
    text (codes "log") ∷ (text (codes "logs") ∷ (flag (codes "events")
    ∷ (text_or (codes "orphans") ORPHANS.now ∷ (flag (codes "leave-orphans") ∷ []))))

abbrev pub run_rules : List Rule
run_rules = flag (codes "strict") ∷ []

-- what `status` and `log` print
abbrev pub shown_rules : List Rule
shown_rules = words (codes "resource") ∷ (flag (codes "json") ∷ (flag (codes "failed") ∷ (text (codes "color") ∷ [])))

abbrev pub status_rules : List Rule
status_rules = flag (codes "exit-code") ∷ (text (codes "logs") ∷ (flag (codes "times") ∷ (text (codes "watch") ∷ [])))

abbrev pub log_rules : List Rule
log_rules =
    text (codes "since") ∷ (text (codes "until") ∷ (by_letter 110 (text (codes "last"))
    ∷ (by_letter 102 (flag (codes "follow")) ∷ (flag (codes "changes") ∷ (flag (codes "salvage") ∷ [])))))

-- what is run once
abbrev pub call_rules : List Rule
call_rules =
    word (codes "agent") ∷ (word (codes "action") ∷ (words (codes "parameters") ∷ (text_or (codes "timeout") TIMEOUT.now
    ∷ (text (codes "level") ∷ (text (codes "id") ∷ (text (codes "of") ∷ (text (codes "journal") ∷ (flag (codes "beside") ∷ []))))))))

-- a subcommand that reads commands, `run`, and a subcommand that reads a journal
abbrev pub session_app : List ℕ → App
session_app name = with_rules (with_rules (with_rules (with_rules (new_app name) location_rules) kept_rules) site_rules) agent_rules

abbrev pub run_app : App
run_app = with_rules (session_app (codes "run")) run_rules

abbrev pub query_app : List ℕ → App
query_app name = with_rules (new_app name) location_rules

abbrev pub status_app : App
status_app = with_rules (with_rules (query_app (codes "status")) shown_rules) status_rules

abbrev pub log_app : App
log_app = with_rules (with_rules (query_app (codes "log")) shown_rules) log_rules

abbrev pub once_app : App
once_app = with_rules (with_rules (new_app (codes "once")) call_rules) site_rules

-- the top level: a subcommand is required, and `--version` prints the version
abbrev pub top_app : App
top_app =
    let a = new_app (codes "ocfexec") in
    record a { top = record a.top { has_version = true; subcommand_required = true } }

-- the whole command line
abbrev pub ocfexec_app : App
ocfexec_app =
    let with_run = with_subcommand top_app run_app.top in
    let with_serve = with_subcommand with_run (session_app (codes "serve")).top in
    let with_show = with_subcommand with_serve (query_app (codes "show")).top in
    let with_status = with_subcommand with_show status_app.top in
    let with_log = with_subcommand with_status log_app.top in
    let with_metrics = with_subcommand with_log (query_app (codes "metrics")).top in
    with_subcommand with_metrics once_app.top
