use Rattle.session_machine.proofs.ReadEvents.{last_read}
use Rattle.session_machine.specs.Behaviours.{then}
use Rattle.session_machine.proofs.system_edge.SystemEdgeEdge.read.Given as goal

abbrev pub ghost-follow : goal.ghost-follow
ghost-follow g a = then a.self.now.trace (last_read (g.I.Input.view a.what.now.0.now).asked)
