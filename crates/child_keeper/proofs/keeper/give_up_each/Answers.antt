use Rattle.std.proofs.Common.{arith, sym, subst, ap, ◌∙◌, ◌≡◌}
use Rattle.agent_system.specs.SystemView.{without_process}
use Rattle.child_keeper.specs.Agents.{agent_processes}
use Rattle.child_keeper.specs.Keepers.{AreDistinct, AreLive}
use Rattle.child_keeper.proofs.GivingUp.{gives_all, gives_none, gives_one}
use Rattle.child_keeper.proofs.KeeperLemmas.{distinct-others, live-others}
use Rattle.child_keeper.proofs.keeper.give_up_each.Goals as goal

pub loop-run-init : goal.loop-run-init
loop-run-init g c = record {
  live = c.requires.live;
  distinct = c.requires.distinct;
  given_up = gives_none g.R.AgentSystem.process_of (g.R.AgentSystem.view c.args.rt.now) c.args.agents.now.given_up.items;
  few = omega arith;
}

pub loop-run-preserved : goal.loop-run-preserved
loop-run-preserved g c =
    let run = c.in-Some.run' in
    let v = g.R.AgentSystem.view c.loop-run.rt in
    let w = g.R.AgentSystem.view c.give_up.new.rt in
    let moved = c.give_up.ensures.moved in
    let before = c.loop-run.invariant in
    let gone : w.sights.live ≡ without_process run v.sights.live =
    ap (λ x. x.sights.live) moved.after ∙ ap (λ r. without_process r v.sights.live) moved.run_is in
    record {
      live = subst (AreLive g.R.AgentSystem.process_of w.sights) (sym c.give_up.ensures.others)
          (live-others g.R.AgentSystem.process_of run v.sights w.sights c.loop-run.agents.agents.items before.live gone);
      distinct = subst AreDistinct (sym gone) (distinct-others run v.sights.live before.distinct);
      given_up = gives_one g.R.AgentSystem.process_of run (g.R.AgentSystem.view c.args.rt.now) v w c.args.agents.now.given_up.items
          c.loop-run.agents.given_up.items c.give_up.new.agents.given_up.items before.given_up before.distinct moved;
      few = omega (arith, before.few, c.give_up.ensures.fewer, c.give_up.ensures.more);
    }

pub returns : goal.returns
returns g c =
    let end = c.loop-run.invariant in
    record {
      none = c.in_default.ensures.none;
      given_up = gives_all g.R.AgentSystem.process_of (g.R.AgentSystem.view c.args.rt.now) (g.R.AgentSystem.view c.loop-run.rt)
          c.args.agents.now.given_up.items c.loop-run.agents.given_up.items end.given_up
          (end.live.are ∙ ap agent_processes c.in_default.ensures.none);
      few = end.few;
    }
