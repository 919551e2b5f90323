use Rattle.proc_files.proofs.StatLemmas.{numeral_utf8}
use Rattle.proc_files.proofs.stat.number_of.Goals as goal

pub returns-in-Err-clause-none : goal.returns-in-Err-clause-none
returns-in-Err-clause-none c number w = absurd (c.in-Err.ensures.cases.0 (numeral_utf8 c.args.digits.now w.numeral))
