use Rattle.std.proofs.Common.{◌≡◌, ℕ, List, Some, take}
use Rattle.std.specs.Process.{SameDir, SameProgramAndArgs, clears_env, command_var, var_after}
use Rattle.agent_system.proofs.command.push_variables.Given as goal

abbrev pub invariant-loop-name : goal.invariant-loop-name
invariant-loop-name g l = record {
  call : SameProgramAndArgs l.fn.command l.command;
  variables : (name : List ℕ)
      → command_var l.command name ≡ var_after Some Some name (command_var l.fn.command name) (take l.name-index l.variables);
  cleared : clears_env l.command ≡ clears_env l.fn.command;
  directory : SameDir l.fn.command l.command;
}
