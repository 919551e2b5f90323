use Rattle.std.proofs.Common.{◌≡◌, ◌≤◌, ◌∙◌, ap, arith, length, map, rules, vec_len}
use Rattle.std.proofs.lemmas.List.{length-append, length-map}
use Rattle.child_keeper.specs.Agents.{just_given_up, runs_of}
use Rattle.child_keeper.specs.Keepers.{children_of}
use Rattle.child_keeper.specs.Waits.{ids_of}
use Rattle.child_model.specs.Children.{after_ends}
use Rattle.process_ends.specs.Endings.{given_up_of}
use Rattle.child_keeper.proofs.GivingUp.{ends_all, give_up_all_keeps}
use Rattle.child_keeper.proofs.keeper.Keeper.give_up_all.Goals as goal

pub give_up_each-requires : goal.give_up_each-requires
give_up_each-requires g c = record { live = c.requires.kept.live; distinct = c.requires.kept.distinct }

pub end_killed-requires : goal.end_killed-requires
end_killed-requires g c = record {
  kept = give_up_all_keeps g.R.AgentSystem.view g.R.AgentSystem.process_of c.args.self.now c.give_up_each.new.rt c.give_up_each.new.agents
      c.requires.kept c.give_up_each.ensures.none c.give_up_each.ensures.given_up c.give_up_each.ensures.few;
}

pub returns : goal.returns
returns g c =
    let k = c.args.self.now in
    let v = g.R.AgentSystem.view k.rt in
    let size : length k.waits.waits.items ≡ vec_len k.waits.waits = search rules in
    let within : k.shown ≤ length v.sights.given_up =
    omega (
      arith,
      size,
      c.requires.kept.shown,
      ap length c.requires.kept.given_up.are,
      length-append (map given_up_of k.waits.waits.items) (map just_given_up k.agents.given_up.items),
      length-map k.waits.waits.items given_up_of,
    ) in
    record {
      kept = c.end_killed.ensures.kept;
      ended = c.end_killed.ensures.ended
          ∙ ap (λ live. record (after_ends (children_of k) (ids_of c.end_killed.new.self.waits.waits.items)) { live = runs_of live }) c.give_up_each.ensures.none;
      leading = c.end_killed.ensures.leading;
      killed = ends_all g.R.AgentSystem.process_of k.shown v (g.R.AgentSystem.view c.give_up_each.new.rt) (g.R.AgentSystem.view c.end_killed.new.self.rt)
          k.agents.given_up.items c.give_up_each.new.agents.given_up.items within c.give_up_each.ensures.given_up c.end_killed.ensures.killed;
    }
