use Rattle.std.proofs.Common.{arith}
use Rattle.std.proofs.lemmas.Bool.{ltb-true, ltb-false}
use Rattle.serde_json.specs.View.{view}
use Rattle.exec_commands.proofs.CountLemmas.{lost, kept}
use Rattle.exec_commands.proofs.counts.has_key_twice.Goals as goal

pub returns-in-Some-clause-yes : goal.returns-in-Some-clause-yes
returns-in-Some-clause-yes c = λ more.
    lost c.args.text.now (view c.args.value.now) c.requires
    (λ same. omega (arith, same, c.colons_in.ensures, c.in-Some.ensures, ltb-true 0 c.in-Some.left more))

pub returns-in-Some-clause-no : goal.returns-in-Some-clause-no
returns-in-Some-clause-no c = λ none.
    kept c.args.text.now (view c.args.value.now) c.requires
    (omega (arith, c.colons_in.ensures, c.in-Some.ensures, ltb-false 0 c.in-Some.left none))

pub returns-in-None-clause-yes : goal.returns-in-None-clause-yes
returns-in-None-clause-yes c = λ _.
    lost c.args.text.now (view c.args.value.now) c.requires
    (λ same. omega (arith, same, c.colons_in.ensures, c.in-None.ensures))
