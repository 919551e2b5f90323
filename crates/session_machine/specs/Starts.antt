-- What a session finds as it begins.
use Rattle.std.specs.Prelude.{ℕ, Bool, List, Option, Result}
use Rattle.std.specs.Global.{Vec}
use Rattle.ocf_types.specs.declared.outcome.MetaFault.{MetaFault}
use Rattle.ocf_env.specs.Locations.{SiteView}
use Rattle.exec_lines.specs.Inputs.{InputView}
use Rattle.exec_lines.specs.Tickers.{TickerEvent}

-- a source of metadata: the agents of this site, each of which runs in a process group of its own or not
pub record SourceView : Type 0 where
  pub site : SiteView
  pub groups : Bool

-- its possible answers: for the agent of a provider and a type that may take this many milliseconds, or as long as it needs
abbrev pub Gives : Type 1
Gives = List ℕ → List ℕ → Option ℕ → Result (Vec ℕ) MetaFault → Type 0

-- its input, what its clock was asked before, and its source of metadata
pub record Start : Type 0 where
  pub input : InputView
  pub ticks : List TickerEvent
  pub source : SourceView
