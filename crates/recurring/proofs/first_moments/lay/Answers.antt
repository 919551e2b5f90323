use Rattle.std.proofs.Common.{◌-◌, ℕ, List, Option, arith, ◌∙◌}
use Rattle.std.proofs.lemmas.List.{length-set, drop-set-lt}
use Rattle.recurring.proofs.Tournament.{won-laid}
use Rattle.recurring.proofs.first_moments.lay.Goals as goal

pub loop-node-preserved : goal.loop-node-preserved
loop-node-preserved c =
    let xs : List (Option ℕ) = c.loop-node.nodes in
    let p : ℕ = c.loop-node.node - 1 in
    let h = c.loop-node.invariant in
    rw c.play.ensures.played (record {
      long = length-set xs p _ ∙ h.long;
      high = omega arith;
      won = won-laid xs c.args.indexes p (omega arith) (omega arith) h.long (λ i from. h.won i (omega (arith, from)));
      moments = drop-set-lt c.args.indexes xs p _ (omega arith) ∙ h.moments;
    })
