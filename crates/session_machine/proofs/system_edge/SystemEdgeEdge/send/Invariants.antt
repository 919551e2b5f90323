use Rattle.std.specs.Prelude.{is_ok}
use Rattle.exec_client.specs.MessageView.{message_view}
use Rattle.session_machine.specs.Behaviours.{then}
use Rattle.session_machine.specs.Events as event
use Rattle.session_machine.proofs.system_edge.SystemEdgeEdge.send.Given as goal

abbrev pub ghost-follow : goal.ghost-follow
ghost-follow g a = then a.self.now.trace (event.Sent (message_view a.what.now.0.now) (is_ok a.what.now.1.now) (g.T.Client.client_view a.what.now.2.now))
