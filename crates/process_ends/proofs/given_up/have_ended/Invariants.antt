use Rattle.std.proofs.Common.{◌≡◌, All, Some, take}
use Rattle.agent_system.specs.Sights.{HasEnded}
use Rattle.process_ends.proofs.given_up.have_ended.Given as goal

abbrev pub invariant-loop-process : goal.invariant-loop-process
invariant-loop-process l = record {
  known : All (λ q. q.pid ≡ l.pid → HasEnded (Some q.start) (Some l.answer)) (take l.process-index l.known);
}
