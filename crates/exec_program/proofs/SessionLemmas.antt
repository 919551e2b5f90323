-- What a session may ask for, from its options.
use Rattle.std.proofs.Common.{inl, inr, option_map, refl}
use Rattle.exec_options.specs.declared.options.Options.{Options}
use Rattle.exec_host.specs.Asked.{Asked}
use Rattle.exec_host.specs.Limits.{book_room}
use Rattle.exec_host.specs.Requests.{Allows, IsOfRun, MakeAgents, OpenReader, Request}
use Rattle.exec_host.specs.Upkeeps.{upkeep_of}

module _ {F L A S R W K H : Type 0} (asked : Asked F L A S R W K H) (may : Request L → Type 0) (o : Options) where
  -- standard input
  pub allows_reader : Allows may (IsOfRun asked o) → may OpenReader
  allows_reader allows = allows OpenReader (inr (inr tt))

  -- agents that write to the log of the options
  pub allows_agents : (log : L) → asked.log (option_map (λ s. s.now) o.log) (option_map (λ s. s.now) o.logs) log
      → Allows may (IsOfRun asked o) → may (MakeAgents (upkeep_of o) log book_room)
  allows_agents log is allows = allows (MakeAgents (upkeep_of o) log book_room) (inr (inl (refl, is, refl)))
