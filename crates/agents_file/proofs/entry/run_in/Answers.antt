use Rattle.std.proofs.Common.{arith}
use Rattle.agents_file.proofs.EntryLemmas.{drawn}
use Rattle.agents_file.proofs.entry.run_in.Goals as goal

pub returns : goal.returns
returns c n is text =
    let number = c.number.ensures n (omega (arith, is)) text in
    drawn c.new.result n c.number.result number is c.new.ensures.value c.new.ensures.lawful.1
