use Rattle.session_machine.specs.Behaviours.{then}
use Rattle.session_machine.specs.Events as event
use Rattle.session_machine.proofs.system_edge.SystemEdgeEdge.has_line.Given as goal

abbrev pub ghost-follow : goal.ghost-follow
ghost-follow g a = then a.self.now.trace (event.Peeked a.what.now)
