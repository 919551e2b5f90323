-- The command for an invocation of an agent.
use Rattle.std.specs.Prelude.{◌≡◌, ℕ, List, ◌∷◌, codes, Option, Some, None, true, string_bytes}
use Rattle.std.specs.Process.{clears_env, command_args, command_dir, command_program, command_var, var_after}
use Rattle.std.specs.declared.process.command.Command.{Command}
use Rattle.ocf_env.specs.Locations.{Call, Pair}
use Rattle.agent_system.specs.declared.leading.Leading.{Leading}
use Rattle.agent_system.specs.declared.leading.Leading.TheVariants.{Launcher, Setsid, Nothing}

-- the value of a variable in a command that has these pairs and no other variables
abbrev pub given : List Pair → List ℕ → Option (Option (List ℕ))
given pairs name = var_after Some Some name None pairs

-- the command is exactly this invocation: its program with its arguments, its variables and no others, in the root directory
pub record Asks {M : Type 0} (c : Command M) (call : Call) : Type 0 where
  pub program : command_program c ≡ call.program
  pub arguments : command_args c ≡ call.arguments
  pub cleared : clears_env c ≡ true
  pub variables : (name : List ℕ) → command_var c name ≡ given call.environment name
  pub directory : command_dir c ≡ Some (codes "/")

-- the program that runs an agent as the leader of a session and a process group, if there is one. POSIX, setsid
abbrev pub leader_of : {M : Type 0} → Leading M → Option (List ℕ)
leader_of (Launcher path) = Some (string_bytes path)
leader_of (Setsid path) = Some (string_bytes path)
leader_of Nothing = None

-- a call that is made by a leader, if there is one: the leader is called with the program and its arguments
abbrev pub led_by : Option (List ℕ) → Call → Call
led_by None call = call
led_by (Some leader) call = record call { program = leader; arguments = call.program ∷ call.arguments }

-- the command is exactly this invocation, made by a leader, if there is one
abbrev pub AsksBy : {M : Type 0} → Option (List ℕ) → Command M → Call → Type 0
AsksBy leader c call = Asks c (led_by leader call)
