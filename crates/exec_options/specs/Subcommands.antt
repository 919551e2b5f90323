-- The names of the subcommands.
use Rattle.std.specs.Prelude.{ℕ, Bool, true, false, List, codes}
use Rattle.exec_options.specs.declared.options.Subcommand.{Subcommand}
use Rattle.exec_options.specs.declared.options.Subcommand.TheVariants.{Run, Serve, Show, Status, Log, Metrics}

abbrev pub subcommand_word : Subcommand → List ℕ
subcommand_word Run = codes "run"
subcommand_word Serve = codes "serve"
subcommand_word Show = codes "show"
subcommand_word Status = codes "status"
subcommand_word Log = codes "log"
subcommand_word Metrics = codes "metrics"

-- the name of the subcommand that has no journal of its own
abbrev pub once_word : List ℕ
once_word = codes "once"

-- a subcommand only reads a journal, which another process may have open, and starts no agent
abbrev pub is_query : Subcommand → Bool
is_query Run = false
is_query Serve = false
is_query Show = true
is_query Status = true
is_query Log = true
is_query Metrics = true
