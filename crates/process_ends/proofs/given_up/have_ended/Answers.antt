use Rattle.std.proofs.Common.{◌≡◌, Some}
use Rattle.std.proofs.lemmas.List.Elements.{All-more}
use Rattle.agent_system.specs.Sights.{HasEnded}
use Rattle.process_ends.proofs.given_up.have_ended.Goals as goal

pub loop-process-preserved : goal.loop-process-preserved
loop-process-preserved c = record {
  known = All-more (λ q. q.pid ≡ c.args.pid → HasEnded (Some q.start) (Some c.args.answer.now)) c.args.known.now
      c.loop-process.process-index _ c.loop-process-test.true c.loop-process.invariant.known
      (c.has_ended_if.ensures c.if-not-has_ended_if.false);
}
