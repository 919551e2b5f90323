use Rattle.std.proofs.lemmas.List.Elements.{All-more, All-weaker}
use Rattle.process_ends.specs.Endings.{IsKilledBeside}
use Rattle.process_ends.proofs.EndingLemmas.{beside_earlier, beside_later, signals_trans}
use Rattle.process_ends.proofs.IndexLemmas.{all_whole}
use Rattle.process_ends.proofs.given_up.GivenUpAction.kill_known.Goals as goal

pub loop-process-preserved : goal.loop-process-preserved
loop-process-preserved g c =
    let known = c.deref-process-items.result.now in
    let before = g.R.AgentSystem.view c.args.rt.now in
    let now = g.R.AgentSystem.view c.loop-process.rt in
    let new = g.R.AgentSystem.view c.kill_one.new.rt in
    let pid = c.args.self.now.process.pid in
    let has_group = c.args.has_group in
    let invariant = c.loop-process.invariant in
    let signals = c.kill_one.ensures.signals in
    record {
      signals = signals_trans invariant.signals signals;
      killed = All-more (IsKilledBeside before new pid has_group) known c.loop-process.process-index _ c.loop-process-test.true
          (All-weaker (IsKilledBeside before now pid has_group) (IsKilledBeside before new pid has_group)
          (λ q. beside_later before now new pid has_group q signals.ends) _ invariant.killed)
          (beside_earlier before now new pid has_group _ invariant.signals.ends c.kill_one.ensures.killed);
    }

pub returns-clause-killed : goal.returns-clause-killed
returns-clause-killed g c =
    all_whole (IsKilledBeside (g.R.AgentSystem.view c.args.rt.now) (g.R.AgentSystem.view c.loop-process.rt) c.args.self.now.process.pid
    c.args.has_group) c.deref-process-items.result.now _ c.loop-process.process-index c.loop-process-test.false
    c.deref-process-items.ensures.value c.loop-process.invariant.killed
