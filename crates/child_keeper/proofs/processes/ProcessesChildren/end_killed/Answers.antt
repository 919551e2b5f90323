use Rattle.std.proofs.Common.{◌∙◌, ap}
use Rattle.child_model.specs.Children.{after_ends}
use Rattle.child_keeper.specs.Waits.{ids_of}
use Rattle.child_keeper.proofs.Knowing.{held_all}
use Rattle.child_keeper.proofs.processes.ProcessesChildren.end_killed.Goals as goal

pub returns-clause-ended : goal.returns-clause-ended
returns-clause-ended g c =
    let held = ids_of c.end_killed.new.self.waits.waits.items in
    (held, c.end_killed.ensures.ended ∙ ap (λ v. after_ends v.children held) c.self.view_is)

pub returns-clause-held : goal.returns-clause-held
returns-clause-held g c =
    held_all g.R.AgentSystem.view g.R.AgentSystem.process_of c.end_killed.new.self c.end_killed.ensures.kept
    (ap (λ v. v.held) c.end_killed.ensures.ended) (ap (λ v. v.given_up) c.end_killed.ensures.ended)
