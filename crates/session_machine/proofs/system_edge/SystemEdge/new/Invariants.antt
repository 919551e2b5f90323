use Rattle.session_machine.specs.Behaviours.{opening}
use Rattle.session_machine.proofs.system_edge.SystemEdge.new.Given as goal

abbrev pub ghost-at : goal.ghost-at
ghost-at g a = opening a.what.now.0
    (record {
      input = g.I.Input.view a.what.now.1.now.input;
      ticks = g.K.Ticker.asked a.what.now.1.now.ticker;
      source = g.M.Metadata.of a.what.now.1.now.source.now;
    })
    a.what.now.2.now (g.T.Client.client_view a.what.now.1.now.client)
