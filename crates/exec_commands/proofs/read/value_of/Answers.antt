use Rattle.std.proofs.Common.{arith, refl}
use Rattle.serde_json.specs.View.{view}
use Rattle.exec_commands.proofs.ValueLemmas.{value_there, no_value}
use Rattle.exec_commands.proofs.read.value_of.Goals as goal

pub returns-in-Ok-Some-clause-ok : goal.returns-in-Ok-Some-clause-ok
returns-in-Ok-Some-clause-ok c =
    let read = rw c.in-Ok-Some.field-0-is at c.in-Ok-Some.ensures.some in
    value_there c.args.bytes.now (view c.in-Ok-Some.value) (omega arith) read.0 read.1

pub returns-in-Ok-None-clause-err : goal.returns-in-Ok-None-clause-err
returns-in-Ok-None-clause-err c = λ _.
    let read = rw c.in-Ok-None.field-0-is at c.in-Ok-None.ensures.none in
    (no_value c.args.bytes.now read, refl)
