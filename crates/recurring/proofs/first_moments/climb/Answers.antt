use Rattle.std.proofs.Common.{◌/◌, ℕ, List, Option, arith, ◌∙◌}
use Rattle.std.proofs.lemmas.List.{length-set, drop-set-lt}
use Rattle.recurring.proofs.Tournament.{won-climbed}
use Rattle.recurring.proofs.first_moments.climb.Goals as goal

pub loop-node-preserved : goal.loop-node-preserved
loop-node-preserved c =
    let xs : List (Option ℕ) = c.loop-node.nodes in
    let p : ℕ = c.loop-node.node / 2 in
    let h = c.loop-node.invariant in
    rw c.play.ensures.played (record {
      long = length-set xs p _ ∙ h.long;
      low = omega arith;
      high = omega arith;
      won = won-climbed xs c.args.indexes c.loop-node.node (omega arith) h.high h.long h.won;
      moments = drop-set-lt c.args.indexes xs p _ (omega arith) ∙ h.moments;
    })
