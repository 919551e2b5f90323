use Rattle.std.specs.Prelude.{[], ◌∷◌, ◌++◌}
use Rattle.exec_lines.specs.Tickers.TickerEvent.{Shown}
use Rattle.exec_lines.proofs.clock_ticker.ClockTickerTicker.now.Given as goal

abbrev pub ghost-follow : goal.ghost-follow
ghost-follow g a = a.self.now.asked ++ Shown a.call.now ∷ []
