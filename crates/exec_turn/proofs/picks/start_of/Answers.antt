use Rattle.ocf_model.specs.Indexes.{at_index}
use Rattle.exec_turn.proofs.Choosing.{found_by}
use Rattle.exec_turn.proofs.PickSteps.{invoked}
use Rattle.exec_turn.proofs.picks.start_of.Goals as goal

pub returns-clause-start : goal.returns-clause-start
returns-clause-start g c =
    let s = c.args.state.now.state in
    let launch = c.in_ok-launch.launch in record {
      resource = at_index s c.args.index;
      is =
          found_by s c.args.index launch.id c.id_at.result.now c.lemma_known.ensures.lawful c.requires.index c.in_ok-launch.ensures.id
          c.id_at.ensures;
      of_one = (c.in_ok-launch.ensures.call, c.in_ok-launch.ensures.run);
      invocation = invoked c.args.site.now launch.id (at_index s c.args.index) c.args.running launch.invocation
          c.id_at.result.now c.provider_at.result.now c.agent_at.result.now c.params_at.result.now
          c.in_ok-launch.ensures.id c.provider_at.ensures c.agent_at.ensures c.params_at.ensures
          c.in_ok-launch.ensures.invocation;
    }
