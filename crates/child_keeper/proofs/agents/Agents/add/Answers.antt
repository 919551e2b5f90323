use Rattle.std.proofs.Common.{◌≡◌, ap, arith, length, rules, vec_len}
use Rattle.child_keeper.proofs.agents.Agents.add.Goals as goal

pub invariant_of-self : goal.invariant_of-self
invariant_of-self g c =
    let lives : length c.args.self.now.agents.items ≡ vec_len c.args.self.now.agents = search rules in
    let given_up : length c.args.self.now.given_up.items ≡ vec_len c.args.self.now.given_up = search rules in
    record {
      room = search rules;
      room_given_up = search rules;
      few = omega (
        arith,
        lives,
        given_up,
        ap length c.requires.ended,
        c.requires.few,
        c.push_reserved.ensures.len,
      );
    }
