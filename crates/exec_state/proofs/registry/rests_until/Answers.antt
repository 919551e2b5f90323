use Rattle.std.proofs.Common.{◌≡◌, arith, take, rules}
use Rattle.std.proofs.lemmas.List.{take_all}
use Rattle.std.specs.Map.{values_of}
use Rattle.exec_state.proofs.Resting.{length-values, rest_more, rest_seen}
use Rattle.exec_state.proofs.registry.rests_until.Goals as goal

pub loop-index-preserved : goal.loop-index-preserved
loop-index-preserved g c = λ now lt.
    rest_more (values_of c.args.resources.now.entries) c.loop-index.index c.loop-index.until c.rests_until-own.result c.min-until.result now
    c.index-resource.result.now c.index-resource.ensures c.loop-index.invariant c.rests_until-own.ensures (search rules) lt

pub returns : goal.returns
returns g c = λ now lt.
    let es = c.args.resources.now.entries in
    let all : take c.loop-index.index (values_of es) ≡ values_of es = take_all c.loop-index.index (values_of es) (omega (arith, c.loop-index-test.false, c.len-index-end.ensures.len, length-values es)) in
    rest_seen es now (rw (← all) (c.loop-index.invariant now lt))
