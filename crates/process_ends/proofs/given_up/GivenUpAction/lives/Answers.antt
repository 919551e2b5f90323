use Rattle.process_ends.proofs.IndexLemmas.{changed_at_index, changed_twice, signalled_changed}
use Rattle.process_ends.proofs.given_up.GivenUpAction.lives.Goals as goal

pub group_lives-requires : goal.group_lives-requires
group_lives-requires g c = record {
  given_up = changed_at_index _ _ _ _ c.args.self.now c.reap.new.self c.requires.given_up
      (signalled_changed _ _ _ _ _ c.reap.new.self c.reap.ensures.given_up c.processes_live.ensures.signals);
}

pub returns-clause-given_up : goal.returns-clause-given_up
returns-clause-given_up g c =
    changed_twice _ _ _ _ _ c.reap.new.self c.group_lives.new.self
    (signalled_changed _ _ _ _ _ c.reap.new.self c.reap.ensures.given_up c.processes_live.ensures.signals) c.group_lives.ensures.given_up
