use Rattle.proc_files.proofs.PieceLemmas.{when_none}
use Rattle.proc_files.proofs.SignalLemmas.{no_mask}
use Rattle.proc_files.proofs.signal.mask_of.Goals as goal

pub returns-clause-none : goal.returns-clause-none
returns-clause-none c =
    when_none _ _ c.number_of.result
    (no_mask c.args.text.now c.in_ok-value.value.now c.split_at.result.0.now c.in_ok-value.ensures.rest c.split_at.ensures.front)
    c.number_of.ensures.none
