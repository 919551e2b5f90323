use Rattle.std.proofs.Common.{◌<◌, ◌∷◌, ◌++◌, [], ap, arith, subst, sym, ◌∙◌}
use Rattle.process_ends.specs.Endings.{IsKilled, given_up_of}
use Rattle.process_ends.proofs.IndexLemmas.{first_due, read_first}
use Rattle.process_ends.proofs.ending.killed.Goals as goal

pub returns-clause-killed : goal.returns-clause-killed
returns-clause-killed g c =
    let before = c.as_mut_slice.result.now in
    let now = c.kill_actions.new.actions in
    let a = c.args.action in
    let d = c.remove.result in
    let first = first_due before now a d
    (c.as_mut_slice.ensures.value ∙ c.in_default.ensures.items ∙ ap (λ l. l ++ a ∷ []) c.new-actions.ensures.items)
    c.kill_actions.ensures.same c.requires.due in
    let some : 0 < c.push.new.self.len = omega (arith, c.in_default.ensures.len) in
    subst (λ x. IsKilled (g.R.AgentSystem.view c.args.rt.now) (g.R.AgentSystem.view c.kill_actions.new.rt) (given_up_of x))
    (sym (c.remove.ensures.value ∙ read_first c.push.new.self.len now _ d first.0 some)) (c.kill_actions.ensures.killed 0 d first.0 first.1)
