use Rattle.std.proofs.Common.{Some}
use Rattle.agent_system.specs.May.{IsEnded}
use Rattle.agent_system.specs.Sights.{latest}
use Rattle.process_ends.specs.Endings.{given_up_of}
use Rattle.process_ends.proofs.EndingLemmas.{signals_look, signals_trans}
use Rattle.process_ends.proofs.IndexLemmas.{all_whole}
use Rattle.process_ends.proofs.OverLemmas.{ended_more}
use Rattle.process_ends.proofs.given_up.GivenUpAction.known_live.Goals as goal

pub loop-process-preserved : goal.loop-process-preserved
loop-process-preserved g c =
    let asked = c.has_ended_at.ensures.asked in
    record {
      signals = signals_trans c.loop-process.invariant.signals (signals_look _ _ _ asked.answer asked.looked);
      ended = ended_more (g.R.AgentSystem.view c.loop-process.rt) (g.R.AgentSystem.view c.has_ended_at.new.rt) (given_up_of c.args.self.now)
          c.deref-process-items.result.now c.loop-process.process-index _ c.has_ended_at.result c.deref-process-items.ensures.value asked
          c.if-not-has_ended_at.false c.loop-process-test.true c.loop-process.invariant.ended;
    }

pub returns-clause-ended : goal.returns-clause-ended
returns-clause-ended g c = λ _.
    all_whole (λ q. IsEnded (Some q.start) (latest (g.R.AgentSystem.view c.loop-process.rt).sights.looks q.pid))
    c.deref-process-items.result.now _ c.loop-process.process-index c.loop-process-test.false c.deref-process-items.ensures.value
    c.loop-process.invariant.ended
