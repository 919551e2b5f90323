use Rattle.ocf_env.proofs.PushLemmas.{params_more}
use Rattle.ocf_env.proofs.variables.push_params.Goals as goal

pub loop-param-preserved : goal.loop-param-preserved
loop-param-preserved g c =
    params_more c.as_slice-param-items.result.now c.loop-param.param-index c.param-item.result _ _ _ c.loop-param-test.true c.param-item.is
    c.loop-param.invariant c.in_ok-push_param.ensures.pairs
