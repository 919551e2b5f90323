use Rattle.std.proofs.Common.{Ok, arith, refl}
use Rattle.child_model.specs.Children.{after_kill}
use Rattle.child_keeper.specs.Keepers.{children_of}
use Rattle.child_keeper.proofs.Keeping.{children_is, give_up_keeps, runs-moved, runs-without, started-same}
use Rattle.child_keeper.proofs.keeper.Keeper.kill.Goals as goal

pub returns-clause-kept : goal.returns-clause-kept
returns-clause-kept g c =
    give_up_keeps g.R.AgentSystem.view g.R.AgentSystem.process_of c.args.run c.args.self.now c.give_up.new.rt c.note.new.self c.give_up.new.agents
    c.requires.kept c.give_up.ensures.others c.give_up.ensures.moved
    (omega (arith, c.give_up.ensures.fewer, c.give_up.ensures.more))
    (started-same c.args.self.now.book.log.items c.note.new.self.log.items _ c.note.ensures.logged refl)

pub returns-clause-killed : goal.returns-clause-killed
returns-clause-killed g c =
    children_is c.args.self.now c.give_up.new.rt c.note.new.self c.give_up.new.agents
    (after_kill (children_of c.args.self.now) c.args.run (Ok tt))
    c.note.ensures.noted c.note.ensures.logged (omega (arith, c.note.ensures.room)) refl
    (runs-without c.args.run c.args.self.now.agents.agents.items c.give_up.new.agents.agents.items c.give_up.ensures.others)
    (runs-moved g.R.AgentSystem.process_of c.args.run _ _ c.args.self.now.agents.given_up.items c.give_up.new.agents.given_up.items c.give_up.ensures.moved)
    refl refl
