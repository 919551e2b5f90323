use Rattle.std.proofs.Common.{[], ap, append_assoc, arith, length, length-append, refl, rules, sym, vec_len, ◌++◌, ◌≡◌, ◌∙◌, ◌∷◌}
use Rattle.std.proofs.lemmas.List.{append-nil}
use Rattle.child_keeper.proofs.KeeperLemmas.{waits-one}
use Rattle.child_keeper.proofs.keeper.begin_waits.Goals as goal

pub loop-agent-init : goal.loop-agent-init
loop-agent-init g c = record {
  live = refl;
  room = c.requires.room;
  waits = ([], refl, ([], sym (append-nil c.args.waits.now.waits.items), tt));
}

pub loop-agent-preserved : goal.loop-agent-preserved
loop-agent-preserved g c =
    let before = c.loop-agent.invariant.waits in
    let added = c.add_agent.ensures.added in
    record {
      live = c.take_given_up.ensures.agents ∙ c.loop-agent.invariant.live;
      room =
          let had : length c.loop-agent.waits.waits.items ≡ vec_len c.loop-agent.waits.waits = search rules in
          let has : length c.add_agent.new.self.waits.items ≡ vec_len c.add_agent.new.self.waits = search rules in
          omega (
            arith,
            had,
            has,
            ap length added.2,
            length-append c.loop-agent.waits.waits.items (added.0 ∷ []),
            c.loop-agent.invariant.room,
            c.in-Some.ensures.fewer,
          );
      waits = (
        before.0 ++ c.in-Some.agent ∷ [],
        append_assoc before.0 (c.in-Some.agent ∷ []) c.take_given_up.new.self.given_up.items ∙ ap (λ l. before.0 ++ l) (sym c.in-Some.ensures.first) ∙ before.1,
        waits-one before.0 c.args.waits.now.waits.items c.loop-agent.waits.waits.items c.add_agent.new.self.waits.items c.in-Some.agent added.0 before.2 added.1 added.2,
      );
    }
