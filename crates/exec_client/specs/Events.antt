-- The line of a result, for a person.
use Rattle.std.specs.Prelude.{◌≡◌, ◌||◌, Bool, true, false, if◌then◌else◌, ℕ, List, [], ◌∷◌, ◌++◌, Option, codes}
use Rattle.std.specs.Io.KnownBytes.{Appends}
use Rattle.ocf_types.specs.Expected.{is_failure}
use Rattle.ocf_types.specs.declared.outcome.Outcome.{Outcome}
use Rattle.ocf_types.specs.declared.outcome.Outcome.TheVariants.{Run, Interrupted, Dropped}
use Rattle.ocf_types.specs.declared.outcome.RunEnd.TheVariants.{Lost}
use Rattle.ocf_types.specs.declared.notice.Notice.{Notice}
use Rattle.exec_client.specs.MessageView as message
use Rattle.exec_client.specs.MessageView.{MessageView}
use Rattle.resource_status.specs.Meanings.{tone_of}
use Rattle.resource_status.specs.declared.meanings.Tone.{Tone}
use Rattle.resource_status.specs.declared.meanings.Tone.TheVariants.{Bad}

-- a failure whatever exit code was expected
abbrev pub is_bad : Tone → Bool
is_bad Bad = true
is_bad _ = false

-- it is not known if the action took effect, or the action never began
abbrev pub is_unknown : Outcome → Bool
is_unknown Interrupted = true
is_unknown Dropped = true
is_unknown (Run Lost) = true
is_unknown _ = false

-- the prefix of a line for the system's journal. sd-daemon(3): warning, err and info
abbrev pub mark_of : Bool → Outcome → List ℕ
mark_of failed o = if is_unknown o then codes "<4>" else (if failed || is_bad (tone_of o) then codes "<3>" else codes "<6>")

-- this prefix, if lines are to have it
abbrev pub marked : Bool → Bool → Outcome → List ℕ
marked true failed o = mark_of failed o
marked false failed o = []

-- the line of a result: its mark, if lines are to have it, the resource, and some text
abbrev pub IsEventLine : Bool → Notice → List ℕ → Type 0
IsEventLine marks n line =
    (text : List ℕ) × (line ≡ marked marks (is_failure n) n.result.outcome ++ (n.id ++ (text ++ codes "\n")))

-- a line for each result, in order
abbrev pub AreEventLines : Bool → List Notice → List ℕ → Type 0
AreEventLines marks [] lines = lines ≡ []
AreEventLines marks (n ∷ ns) lines =
    (line : List ℕ) × (rest : List ℕ) × IsEventLine marks n line × (lines ≡ line ++ rest) × AreEventLines marks ns rest

-- these results had their lines written, between two contents of a writer
pub record WritesEvents (marks : Bool) (ns : List Notice) (old new : Option (List ℕ)) : Type 0 where
  pub lines : List ℕ
  pub are : AreEventLines marks ns lines
  pub written : Appends old new lines

-- the results in a message
abbrev pub notices_in : MessageView → List Notice
notices_in (message.Reply reply) = []
notices_in (message.Replies replies) = []
notices_in (message.News reply) = []
notices_in (message.Turn book notices) = notices
notices_in (message.Report notices) = notices
