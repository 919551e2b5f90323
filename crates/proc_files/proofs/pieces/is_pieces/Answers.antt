use Rattle.std.proofs.Common.{refl}
use Rattle.proc_files.proofs.PieceLemmas.{is_empty_pieces, one_piece}
use Rattle.proc_files.proofs.pieces.is_pieces.Goals as goal

pub returns-in-Some : goal.returns-in-Some
returns-in-Some c = (λ _. one_piece c.args.end _ c.args.text.now c.in-Some.ensures.prefix, λ _. refl)

pub returns-in-None : goal.returns-in-None
returns-in-None c = is_empty_pieces c.args.end c.args.text.now c.is_empty.result c.is_empty.ensures c.in-None.ensures.none
