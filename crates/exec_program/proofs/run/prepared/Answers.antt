use Rattle.std.proofs.Common.{subst, sym}
use Rattle.exec_host.specs.Limits.{book_room}
use Rattle.exec_host.specs.Requests.{MakeAgents}
use Rattle.exec_host.specs.Upkeeps.{UpkeepView}
use Rattle.exec_program.proofs.run.prepared.Goals as goal

pub agents-requires-clause-may : goal.agents-requires-clause-may
agents-requires-clause-may g c =
    subst (λ (u : UpkeepView). g.H.Host.may (MakeAgents u c.args.log book_room)) (sym c.upkeep_of.ensures) c.requires.may_make

pub returns-clause-agents : goal.returns-clause-agents
returns-clause-agents g c =
    subst (λ (u : UpkeepView). g.H.Host.asked.agents u c.args.log c.in-Ok.made.1.items c.in-Ok.made.0)
    c.upkeep_of.ensures c.in-Ok.ensures.agents
