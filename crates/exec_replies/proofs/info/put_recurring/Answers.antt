use Rattle.std.proofs.Common.{[], ◌∷◌, ◌++◌}
use Rattle.std.specs.Prelude.{codes}
use Rattle.std.proofs.lemmas.Result.{on_ok_weaker}
use Rattle.json.specs.Token.{end_array}
use Rattle.exec_replies.specs.Replies.{recur_data}
use Rattle.exec_replies.specs.Tokens.{array_member, values_tokens}
use Rattle.exec_replies.proofs.AddLemmas.{joined}
use Rattle.exec_replies.proofs.info.put_recurring.Goals as goal

pub returns : goal.returns
returns c = record {
  ok =
      let monitors = values_tokens recur_data c.args.monitors.now in
      on_ok_weaker c.end_array.result
      (λ last. joined (array_member (codes "recurring")) (monitors ++ (end_array ∷ [])) _ _ _ c.in_ok-begin_array.ensures.ok
      (joined monitors (end_array ∷ []) _ _ _ c.in_ok-put_monitors.ensures.ok last)) c.end_array.ensures.ok;
}
