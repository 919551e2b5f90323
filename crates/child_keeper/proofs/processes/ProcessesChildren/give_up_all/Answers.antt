use Rattle.std.proofs.Common.{◌∙◌, ap}
use Rattle.child_model.specs.Children.{all_ended}
use Rattle.child_keeper.specs.Waits.{ids_of}
use Rattle.child_keeper.proofs.Knowing.{held_all}
use Rattle.child_keeper.proofs.processes.ProcessesChildren.give_up_all.Goals as goal

pub returns-clause-ended : goal.returns-clause-ended
returns-clause-ended g c =
    let held = ids_of c.give_up_all.new.self.waits.waits.items in
    (held, c.give_up_all.ensures.ended ∙ ap (λ v. all_ended v.children held) c.self.view_is)

pub returns-clause-held : goal.returns-clause-held
returns-clause-held g c =
    held_all g.R.AgentSystem.view g.R.AgentSystem.process_of c.give_up_all.new.self c.give_up_all.ensures.kept
    (ap (λ v. v.held) c.give_up_all.ensures.ended) (ap (λ v. v.given_up) c.give_up_all.ensures.ended)
