use Rattle.exec_options.proofs.AppLemmas.{added_rules, local-arg}
use Rattle.exec_options.proofs.app.with_group.Goals as goal

pub loop-argument-preserved : goal.loop-argument-preserved
loop-argument-preserved c = record {
  app =
      added_rules c.args.group.now c.loop-argument.argument-index _ _ _ _ _ c.loop-argument-test.true c.in_ok-extended.ensures
      c.arg_of.ensures.local c.arg_of.ensures.rule c.loop-argument.invariant.app;
  local = local-arg _ _ _ _ c.in_ok-extended.ensures c.arg_of.ensures.local c.loop-argument.invariant.local;
}
