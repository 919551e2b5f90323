use Rattle.session_machine.specs.Behaviours.{then}
use Rattle.session_machine.specs.Events as event
use Rattle.session_machine.proofs.system_edge.SystemEdgeEdge.note_fault.Given as goal

abbrev pub ghost-follow : goal.ghost-follow
ghost-follow g a = then a.self.now.trace (event.Faulted a.what.now)
