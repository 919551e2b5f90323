use Rattle.std.proofs.Common.{subst}
use Rattle.child_keeper.specs.Processes.{ProcessesView, RunOneAtATime}
use Rattle.child_keeper.proofs.OneAtATime.{one_at_a_time}
use Rattle.child_keeper.proofs.processes.Processes.lemma_one_at_a_time.Goals as goal

pub returns : goal.returns
returns g c = record {
  law = subst (λ (x : ProcessesView). RunOneAtATime x.system) c.self.view_is
      (one_at_a_time (g.R.AgentSystem.view c.self.inside.keeper.rt) c.self.inside.keeper.last_run c.lemma_history.ensures.history
      c.self.invariant.numbered c.lemma_apart.ensures.apart c.lemma_over.ensures.spawned);
}
