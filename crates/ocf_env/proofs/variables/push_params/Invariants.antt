use Rattle.std.proofs.Common.{◌≡◌, ◌++◌, take}
use Rattle.ocf_env.specs.Lists.{param_pairs}
use Rattle.ocf_env.proofs.variables.push_params.Given as goal

abbrev pub invariant-loop-param : goal.invariant-loop-param
invariant-loop-param g l = l.pairs.items ≡ l.initial.pairs.items ++ param_pairs (take l.param-index l.param-items)
