-- What a session in `serve` says of itself, and the rules of a session, by the options.
use Rattle.std.specs.Prelude.{◌≡◌, ℕ, codes, List, Option, Some, None, option_map}
use Rattle.exec_replies.specs.JournalIds.{id_digits}
use Rattle.exec_replies.specs.Service.{identity_in}
use Rattle.ocf_types.specs.declared.orphan.Orphan.{Orphan}
use Rattle.exec_replies.specs.declared.notice.NoticeForm.{NoticeForm}
use Rattle.exec_replies.specs.declared.notice.NoticeForm.TheVariants.{Short, Timed}
use Rattle.exec_options.specs.declared.texts.TheConstants.{VERSION}
use Rattle.exec_options.specs.declared.options.JournalLocation.{JournalLocation}
use Rattle.exec_options.specs.declared.options.JournalLocation.TheVariants.{Directory}
use Rattle.exec_options.specs.declared.options.Options.{Options}
use Rattle.exec_options.specs.declared.options.Subcommand.{Subcommand}
use Rattle.exec_options.specs.declared.options.Subcommand.TheVariants as subcommand
use Rattle.session_machine.specs.declared.rules.Mode.{Mode}
use Rattle.session_machine.specs.declared.rules.Mode.TheVariants as mode
use Rattle.session_machine.specs.declared.rules.Rules.{Rules}
use Rattle.exec_host.specs.Limits.{most_turns}
use Rattle.exec_host.specs.declared.options.Findings.{Findings}

-- the mode of the session that a subcommand asks for
abbrev pub way_of : Subcommand → Mode
way_of subcommand.Serve = mode.Serve
way_of _ = mode.Run

-- the directory whose journal is served; long times may pass without a call of its device
abbrev pub served_at : Subcommand → JournalLocation → Option (List ℕ)
served_at subcommand.Serve (Directory directory) = Some directory.now
served_at _ _ = None

-- the same, by the options
abbrev pub served_directory : Options → Option (List ℕ)
served_directory o = served_at o.subcommand o.journal

-- what a session in `serve` says of itself: the version, the directory of its journal, if it has one, the identity of that journal, and
-- the processes that live on from interrupted actions
pub record ServiceView : Type 0 where
  pub version : List ℕ
  pub journal : Option (List ℕ)
  pub identity : Option (List ℕ)
  pub left : List Orphan

-- the same, as lines of this form give it: nothing where they are short
abbrev pub service_in : NoticeForm → Option ServiceView
service_in Short = None
service_in (Timed s) = Some (record {
  version = s.version.now;
  journal = option_map (λ directory. directory.now) s.journal;
  identity = identity_in s;
  left = s.left.now;
})

-- the identity that an opening found
abbrev pub found_identity : Findings → Option (List ℕ)
found_identity f = option_map (λ id. id_digits id.now) f.identity

-- A client of `serve` is sent the program's version, the directory as the options name it, this identity of its journal, and the processes
-- that live on.
abbrev pub service_of : Options → Option (List ℕ) → List Orphan → Mode → Option ServiceView
service_of o identity left mode.Run = None
service_of o identity left mode.Serve =
    Some (record { version = VERSION.now; journal = served_directory o; identity = identity; left = left })

-- a session keeps to these options, over a journal of this identity, where these processes live on
pub record IsHeldTo (o : Options) (identity : Option (List ℕ)) (left : List Orphan) (rules : Rules) : Type 0 where
  pub mode : rules.mode ≡ way_of o.subcommand
  pub form : service_in rules.form ≡ service_of o identity left (way_of o.subcommand)
  pub most_turns : rules.most_turns ≡ most_turns
  pub tidy_at : rules.tidy_at ≡ o.tidy_at

-- the last line of a session in `serve` that its disk ends
abbrev pub disk_line : List ℕ
disk_line = codes "{\"end\":\"disk\",\"kind\":\"trouble\"}\n"
