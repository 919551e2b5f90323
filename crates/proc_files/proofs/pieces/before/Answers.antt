use Rattle.std.proofs.lemmas.Bool.Decides.{Decides-eqb}
use Rattle.std.proofs.lemmas.Slice.Eq.{strip_suffix_is}
use Rattle.proc_files.proofs.PieceLemmas.{if_none, if_some}
use Rattle.proc_files.proofs.pieces.before.Goals as goal

pub returns-clause-prefix : goal.returns-clause-prefix
returns-clause-prefix c =
    if_some _ _ c.strip_suffix.result
    (strip_suffix_is Decides-eqb c.args.text.now c.args.last.now c.strip_suffix.result c.strip_suffix.ensures.cases)

pub returns-clause-none : goal.returns-clause-none
returns-clause-none c =
    if_none _ _ c.strip_suffix.result
    (strip_suffix_is Decides-eqb c.args.text.now c.args.last.now c.strip_suffix.result c.strip_suffix.ensures.cases)
