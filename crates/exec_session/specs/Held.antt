-- A line that a session in `serve` holds: it asks for metadata, or for the end of the session.
use Rattle.std.specs.Prelude.{◌≡◌, ⊤, [], ◌∷◌, Option, Some, None, Result, Ok}
use Rattle.ocf_model.specs.declared.refusal.Refusal.{Refusal}
use Rattle.exec_commands.specs.declared.line.Line.{Line}
use Rattle.exec_commands.specs.declared.line.Line.TheVariants as line
use Rattle.session_machine.specs.Session.{Lines}
use Rattle.session_machine.specs.declared.rules.Mode.{Mode}
use Rattle.session_machine.specs.declared.rules.Mode.TheVariants.{Run}
use Rattle.exec_session.specs.declared.held.Held.{Held}
use Rattle.exec_session.specs.declared.held.Held.TheVariants as held

-- the request of a held line
abbrev pub asks : Held → Line
asks (held.Metadata provider agent limit) = line.Meta provider agent limit
asks held.Leave = line.Leave

-- the held line, if there is one, as a line that was read and is not answered
abbrev pub held_lines : Option Held → Lines
held_lines None = []
held_lines (Some h) = Ok (asks h) ∷ []

-- In this mode a line may be answered as soon as it is read: in `run` any line; in `serve` any but a question for metadata and the one
-- that asks for the end of the session.
abbrev pub MayAnswerAtOnce : Mode → Result Line Refusal → Type 0
MayAnswerAtOnce mode (Ok (line.Meta provider agent limit)) = mode ≡ Run
MayAnswerAtOnce mode (Ok line.Leave) = mode ≡ Run
MayAnswerAtOnce mode _ = ⊤

-- the line asks for no metadata
abbrev pub IsNoMeta : Result Line Refusal → Type 0
IsNoMeta (Ok (line.Meta provider agent limit)) = ⊥
IsNoMeta _ = ⊤

-- a line is held that asks for metadata
abbrev pub IsHeldMeta : Option Held → Type 0
IsHeldMeta (Some (held.Metadata provider agent limit)) = ⊤
IsHeldMeta _ = ⊥
