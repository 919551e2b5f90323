use Rattle.std.proofs.Common.{◌≡◌, ◌++◌, take}
use Rattle.std.specs.Process.{SameDir, SameEnv, command_args, command_program}
use Rattle.agent_system.proofs.command.push_arguments.Given as goal

abbrev pub invariant-loop-argument : goal.invariant-loop-argument
invariant-loop-argument g l = record {
  program : command_program l.command ≡ command_program l.fn.command;
  arguments : command_args l.command ≡ command_args l.fn.command ++ take l.argument-index l.arguments;
  environment : SameEnv l.fn.command l.command;
  directory : SameDir l.fn.command l.command;
}
