use Rattle.std.proofs.Common.{length, refl, rules, vec_len, ◌≡◌, ◌≤◌, arith}
use Rattle.child_keeper.proofs.Waiting.{end_children, end_keeps, fresh_waits, given_up_waits, killed_from}
use Rattle.child_keeper.proofs.keeper.Keeper.end_killed.Goals as goal

pub go_on-requires : goal.go_on-requires
go_on-requires g c =
    given_up_waits g.R.AgentSystem.process_of (g.R.AgentSystem.view c.args.self.now.rt).sights c.args.self.now.waits.waits.items
    c.begin_waits.new.waits.waits.items c.args.self.now.agents.given_up.items c.requires.kept.given_up c.begin_waits.ensures.waits

pub returns : goal.returns
returns g c =
    let k = c.args.self.now in
    let mid = c.begin_waits.new.waits in
    let within : k.shown ≤ length k.waits.waits.items =
    (let size : length k.waits.waits.items ≡ vec_len k.waits.waits = search rules in omega (arith, size, c.requires.kept.shown)) in
    record {
      kept = end_keeps g.R.AgentSystem.view g.R.AgentSystem.process_of k c.go_on.new.rt c.begin_waits.new.agents mid c.go_on.new.waits c.len-self.result
          c.requires.kept c.begin_waits.ensures.none c.begin_waits.ensures.live c.begin_waits.ensures.waits c.go_on.ensures.given_up
          c.go_on.ensures.ends c.go_on.ensures.rest c.len-self.ensures;
      ended = end_children k c.go_on.new.rt c.begin_waits.new.agents c.go_on.new.waits c.len-self.result c.begin_waits.ensures.none
          c.begin_waits.ensures.live c.len-self.ensures;
      leading = refl;
      killed = record {
        ends = c.go_on.ensures.ends;
        killed = killed_from g.R.AgentSystem.process_of k.shown (g.R.AgentSystem.view k.rt) (g.R.AgentSystem.view c.go_on.new.rt) mid.waits.items
            (given_up_waits g.R.AgentSystem.process_of (g.R.AgentSystem.view k.rt).sights k.waits.waits.items mid.waits.items k.agents.given_up.items
            c.requires.kept.given_up c.begin_waits.ensures.waits)
            (fresh_waits k.shown k.waits.waits.items mid.waits.items k.agents.given_up.items within c.requires.kept.fresh
            c.begin_waits.ensures.waits)
            c.go_on.ensures.killed;
      };
    }
