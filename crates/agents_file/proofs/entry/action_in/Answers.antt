use Rattle.std.proofs.Common.{◌∙◌, ap, subst, sym}
use Rattle.std.specs.Str.{IsUtf8}
use Rattle.ocf_types.specs.Actions.{action_named}
use Rattle.agents_file.proofs.EntryLemmas.{word_is_found, word_is_text}
use Rattle.agents_file.proofs.entry.action_in.Goals as goal

pub returns-in-Ok : goal.returns-in-Ok
returns-in-Ok c action is =
    c.named.ensures.named ∙ ap action_named (c.in-Ok.ensures.cases.0 ∙ is) ∙ word_is_found action

pub returns-in-Err : goal.returns-in-Err
returns-in-Err c action is = absurd (c.in-Err.ensures.cases.0 (subst IsUtf8 (sym is) (word_is_text action)))
