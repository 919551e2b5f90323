use Rattle.agents_file.proofs.LineLemmas.{over_blank}
use Rattle.agents_file.proofs.line.padded.Goals as goal

pub returns : goal.returns
returns c =
    let written = c.copy_from_slice.ensures.after in
    let blank = c.blank_line-line.ensures in
    let is = over_blank c.args.text.now c.requires.short in
    rw c.copy_from_slice.ensures.after (rw c.blank_line-line.ensures is)
