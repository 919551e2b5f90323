use Rattle.session_machine.specs.Behaviours.{then}
use Rattle.session_machine.specs.Events as event
use Rattle.session_machine.proofs.system_edge.SystemEdgeEdge.poll_metadata.Given as goal

abbrev pub ghost-follow : goal.ghost-follow
ghost-follow g a = then a.self.now.trace (event.GaveMetadata a.what.now.0.now a.what.now.1.now a.what.now.2 a.what.now.3.now)
