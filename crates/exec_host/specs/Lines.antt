-- The lines of a session over a store, and how they end.
use Rattle.std.specs.Prelude.{◌≡◌, ℕ, List, [], Option, not, Result}
use Rattle.store_model.specs.StoreView.{StoreView}
use Rattle.executor.specs.ExecutorView.{ExecutorView}
use Rattle.ocf_types.specs.declared.orphan.Orphan.{Orphan}
use Rattle.exec_options.specs.Arguments.{directory_of}
use Rattle.exec_options.specs.declared.options.Options.{Options}
use Rattle.exec_faults.specs.declared.fault.Fault.{Fault}
use Rattle.exec_session.specs.Ends.{ClosesByCalls, Ended}
use Rattle.session_machine.specs.Behaviours.{Trace, opening}
use Rattle.session_machine.specs.EdgeView.{EdgeView, IsFaithful}
use Rattle.session_machine.specs.Starts.{Start}
use Rattle.session_machine.specs.First.{IsNew}
use Rattle.session_machine.specs.declared.rules.Rules.{Rules}
use Rattle.exec_client.specs.ClientView.{ClientView}
use Rattle.exec_client.specs.SentItem.{SentItem}
use Rattle.exec_host.specs.Asked.{System}
use Rattle.exec_host.specs.Sites.{site_of}
use Rattle.exec_host.specs.Services.{served_directory, IsHeldTo}

-- How a session ended: by itself, all that its client was sent, and the store and the agents that it gave back.
pub record SessionEnd (T A : Type 0) : Type 0 where
  pub ran : Result Unit Fault
  pub sent : List SentItem
  pub store : T
  pub agents : A

-- A session that began so. What happened is a behaviour that begins with the opening's report, and of which input, clock and source were
-- asked as it says (`IsFaithful`); and it ended like this. Its executor went on by calls alone and was closed, and all that was sent is
-- what these answered (`ClosesByCalls`).
pub record RunsSession {T : Type 0} (s : System) (view : T → StoreView) (begins : Trace T) (edge : EdgeView T)
    (end : SessionEnd T s.Agents) : Type 0 where
  pub faithful : IsFaithful view s.gives edge
  pub ends : Ended view s.tend begins edge.trace end.ran end.store end.agents
  pub closes : ClosesByCalls view begins.state.executor edge.trace.state.client end.store (s.tend end.agents)
  pub sent : end.sent ≡ edge.trace.state.client.reported

-- The lines that this reader gives were answered over an executor that was just opened, where these processes live on, with metadata of
-- the options' site and by the rules of the options (`RunsSession`). The session's clock is the one that was asked for with the executor's.
-- What the clock and the reader were asked, from when the host gave them until they were left, they were asked in the session.
pub record RunsLines {T : Type 0} (s : System) (view : T → StoreView) (o : Options) (reader : s.Reader) (lives : List Orphan)
    (executor : ExecutorView T) (end : SessionEnd T s.Agents) : Type 0 where
  pub source : s.Source
  pub writer : s.Writer
  pub ticker : s.Ticker
  pub last_reader : s.Reader
  pub last_ticker : s.Ticker
  pub identity : Option (List ℕ)
  pub rules : Rules
  pub client : ClientView T
  pub start : Start
  pub edge : EdgeView T
  pub of_journal : s.asked.identity (directory_of o.journal) identity
  pub of_site : s.asked.source (site_of o) (not o.no_groups) source
  pub of_clock : s.asked.ticker (directory_of o.journal) executor.state.clock ticker
  pub writes : s.asked.writer (served_directory o) writer
  pub new : IsNew client executor
  pub written : client.written ≡ s.contents writer
  pub held : IsHeldTo o identity lives rules
  pub reads : start.input ≡ s.input reader
  pub unasked : start.ticks ≡ []
  pub asks : start.source ≡ record { site = site_of o; groups = not o.no_groups }
  pub runs : RunsSession s view (opening rules start executor client) edge end
  pub left : s.asked.left last_reader last_ticker
  pub read : edge.input ≡ s.input last_reader
  pub shown : edge.ticks ≡ s.ticks last_ticker
