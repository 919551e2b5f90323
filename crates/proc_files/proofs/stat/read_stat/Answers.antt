use Rattle.proc_files.proofs.PieceLemmas.{when_none}
use Rattle.proc_files.proofs.StatLemmas.{no_process}
use Rattle.proc_files.proofs.stat.read_stat.Goals as goal

pub returns-in_err-number-clause-none : goal.returns-in_err-number-clause-none
returns-in_err-number-clause-none c =
    rw c.from_residual.ensures (λ p is. c.in_err-number.ensures.none is.0 is.1 is.2)

pub returns-clause-none : goal.returns-clause-none
returns-clause-none c =
    when_none _ _ c.process_of.result
    (no_process c.args.text.now c.in_ok-number.number.now c.in_ok-number.fields.now c.in_ok-number.ensures.some)
    c.process_of.ensures.none
