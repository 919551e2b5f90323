-- Commands and lines with valid names.
use Rattle.std.specs.Prelude.{IsTrue, IfOk, Result, ⊤}
use Rattle.ocf_types.specs.Kinds.{Command}
use Rattle.ocf_types.specs.Lawful.{IsId}
use Rattle.ocf_types.specs.Names.{is_agent_type, is_provider}
use Rattle.ocf_types.specs.declared.command.CommandOf.TheVariants as command
use Rattle.ocf_types.specs.declared.command.RequestOf.TheVariants as request
use Rattle.ocf_model.specs.declared.refusal.Refusal.{Refusal}
use Rattle.exec_commands.specs.declared.line.Line.{Line}
use Rattle.exec_commands.specs.declared.line.Line.TheVariants as line

-- a command names its resource by a valid id, and if it registers one, a valid provider and agent
abbrev pub IsNamed : Command → Type 0
IsNamed (command.Register r) = IsId r.id × IsTrue (is_provider r.provider) × IsTrue (is_agent_type r.agent)
IsNamed (command.Unregister id) = IsId id
IsNamed (command.SetParams id ps) = IsId id
IsNamed (command.Exec id t timeout) = IsId id
IsNamed (command.Recur id interval timeout check) = IsId id
IsNamed (command.Cancel id interval) = IsId id
IsNamed (command.Forget id) = IsId id
IsNamed (command.Withdraw id call) = IsId id

-- the same of a line that asks for a command
abbrev pub IsNamedLine : Line → Type 0
IsNamedLine (line.Request (request.Command c)) = IsNamed c
IsNamedLine _ = ⊤

-- and a line that was read as this or refused
abbrev pub IsNamedRead : Result Line Refusal → Type 0
IsNamedRead found = IfOk found IsNamedLine
