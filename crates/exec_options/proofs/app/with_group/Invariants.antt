use Rattle.std.proofs.Common.{◌≡◌, map, take}
use Rattle.clap.specs.Words.{app_of}
use Rattle.clap.specs.declared.builder.command.Command.TheViews.{out-Command}
use Rattle.exec_options.specs.App.{rule_for, with_rules}
use Rattle.exec_options.proofs.app.with_group.Given as goal

abbrev pub invariant-loop-argument : goal.invariant-loop-argument
invariant-loop-argument l = record {
  app : app_of l.extended ≡ with_rules (app_of l.fn.command) (map rule_for (take l.argument-index l.group));
  local : (out-Command l.extended).has_globals ≡ (out-Command l.fn.command).has_globals;
}
