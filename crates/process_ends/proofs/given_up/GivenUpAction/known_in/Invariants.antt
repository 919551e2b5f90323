use Rattle.std.proofs.Common.{◌≡◌, ◌++◌, filter, take}
use Rattle.agent_system.specs.May.{is_agent}
use Rattle.process_ends.specs.Endings.{given_up_of}
use Rattle.process_ends.proofs.given_up.GivenUpAction.known_in.Given as goal

abbrev pub invariant-loop-process : goal.invariant-loop-process
invariant-loop-process g l = record {
  known : l.known.items ≡ l.self.known.items ++ filter (is_agent (given_up_of l.self)) (take l.process-index l.table);
}
