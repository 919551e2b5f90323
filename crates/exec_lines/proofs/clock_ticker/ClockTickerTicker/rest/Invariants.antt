use Rattle.std.specs.Prelude.{[], ◌∷◌, ◌++◌}
use Rattle.exec_lines.specs.Tickers.TickerEvent.{Rested}
use Rattle.exec_lines.proofs.clock_ticker.ClockTickerTicker.rest.Given as goal

abbrev pub ghost-follow : goal.ghost-follow
ghost-follow g a = a.self.now.asked ++ Rested a.call.now ∷ []
