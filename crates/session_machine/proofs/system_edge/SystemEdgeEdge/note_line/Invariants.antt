use Rattle.std.specs.Prelude.{is_ok}
use Rattle.session_machine.proofs.NotedLines.{noted_as}
use Rattle.session_machine.specs.Behaviours.{then}
use Rattle.session_machine.proofs.system_edge.SystemEdgeEdge.note_line.Given as goal

abbrev pub ghost-follow : goal.ghost-follow
ghost-follow g a = then a.self.now.trace (noted_as (is_ok a.what.now.2.now) a.what.now.0.now a.what.now.1.now.value)
