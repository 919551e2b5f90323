use Rattle.std.proofs.Common.{rules}
use Rattle.exec_client.proofs.TagLemmas.{untagged_first}
use Rattle.exec_client.proofs.waiting.take_first.Goals as goal

pub returns-then-index-gt0-clause-tag : goal.returns-then-index-gt0-clause-tag
returns-then-index-gt0-clause-tag c =
    untagged_first c.args.waiting.now.items c.args.after.now c.index.result.now (search rules) c.index.ensures c.if-index-gt0.true
