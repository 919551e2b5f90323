use Rattle.std.proofs.Common.{◌≡◌, ◌∙◌, sym, ap, decimal}
use Rattle.ocf_types.specs.Actions.{level_number}
use Rattle.ocf_types.specs.declared.action.Action.TheVariants.{Monitor}
use Rattle.ocf_types.specs.declared.action.Check.{Check}
use Rattle.ocf_env.proofs.PushLemmas.{valued}
use Rattle.ocf_env.proofs.variables.push_level.Goals as goal

pub returns-in_ok-push_pair-in-Monitor : goal.returns-in_ok-push_pair-in-Monitor
returns-in_ok-push_pair-in-Monitor g c = record {
  pairs =
      let monitor : c.args.task.action ≡ Monitor = sym c.action.ensures ∙ c.in-Monitor.is in
      rw monitor (valued _ _ _ _ _ c.in_ok-push_pair-in-Monitor.ensures.pairs
      (c.level_text.ensures ∙ ap (λ (x : Check). decimal (level_number x.level)) c.check.ensures));
}
