use Rattle.std.proofs.Common.{◌∙◌, ap, decimal}
use Rattle.ocf_types.specs.Actions.{action_word}
use Rattle.ocf_env.proofs.MetaLemmas.{all_added}
use Rattle.ocf_env.proofs.meta_variables.add_meta.Goals as goal

pub returns : goal.returns
returns g c = record {
  pairs =
      let word = c.word-word.ensures ∙ ap action_word c.action.ensures in
      all_added c.args.running c.args.pairs.now.items _ _ _ _ _ _ c.format-interval.ensures.text word
      (c.format-timeout.ensures.text ∙ ap decimal c.get.ensures.value) c.in_ok-add_new.ensures.pairs c.in_ok-add_new-2.ensures.pairs
      c.in_ok-add_new-3.ensures.pairs;
}
