use Rattle.std.proofs.lemmas.Fmt.{parse-decimal}
use Rattle.agents_file.proofs.line.number_in.Goals as goal

pub returns-in-Ok : goal.returns-in-Ok
returns-in-Ok c n fits is =
    let read = parse-decimal 64 n c.args.text.now c.parse.result fits fits is c.parse.ensures.value.0 in
    let same = c.in-Ok.is in cc

pub returns-in-Err : goal.returns-in-Err
returns-in-Err c n fits is =
    let read = parse-decimal 64 n c.args.text.now c.parse.result fits fits is c.parse.ensures.value.0 in
    let same = c.in-Err.is in absurd (cc)
