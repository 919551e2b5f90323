use Rattle.std.proofs.Common.{◌≡◌, ap, arith, length, refl, rules, vec_len}
use Rattle.std.proofs.lemmas.Fn.{filter_same}
use Rattle.child_model.specs.Children.{without_run}
use Rattle.child_model.specs.Lemmas.{fewer}
use Rattle.test_support.proofs.live.LiveRuns.remove.Goals as goal

pub returns : goal.returns
returns g c =
    let removed : c.retain.new.self.items ≡ without_run c.args.run c.args.self.now.runs.items =
    filter_same _ _ _ (λ x b f' k. search rules) _ _ c.retain.ensures.filtered in
    let before : length c.args.self.now.runs.items ≡ vec_len c.args.self.now.runs = search rules in
    let left : length c.retain.new.self.items ≡ vec_len c.retain.new.self = search rules in
    record {
      removed = removed;
      fewer = λ lives. omega (arith, before, left, ap length removed, fewer c.args.run c.args.self.now.runs.items lives);
      given_up = refl;
    }
