-- How a session looks after its agents.
use Rattle.std.specs.Prelude.{ℕ, Bool, List, Option, not, option_map}
use Rattle.exec_options.specs.Arguments.{directory_of}
use Rattle.exec_options.specs.declared.options.Options.{Options}
use Rattle.exec_host.specs.declared.host.Upkeep.{Upkeep}

-- The directory in which it is recorded which agents run, if there is one; how long a resource waits at most for the processes of an
-- interrupted action, in milliseconds; whether these are left alone instead; and whether each agent runs in a session and process group
-- of its own (POSIX, setsid).
pub record UpkeepView : Type 0 where
  pub directory : Option (List ℕ)
  pub limit : ℕ
  pub leave : Bool
  pub groups : Bool

-- the same, with the directory as bytes
abbrev pub upkeep_view : Upkeep → UpkeepView
upkeep_view u = record { directory = option_map (λ s. s.now) u.directory; limit = u.limit; leave = u.leave; groups = u.groups }

-- as these options say: the directory is that of the journal
abbrev pub upkeep_of : Options → UpkeepView
upkeep_of o = record { directory = directory_of o.journal; limit = o.orphans; leave = o.leave_orphans; groups = not o.no_groups }
