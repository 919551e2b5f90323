use Rattle.serde_json.specs.View.{view}
use Rattle.exec_commands.proofs.TwiceLemmas.{value_read, unique}
use Rattle.exec_commands.proofs.strict.value_has_key_twice.Goals as goal

pub has_key_twice-requires : goal.has_key_twice-requires
has_key_twice-requires c = (value_read c.args.bytes.now (view c.args.value.now) c.requires).1

pub returns-clause-yes : goal.returns-clause-yes
returns-clause-yes c = λ is. ((value_read c.args.bytes.now (view c.args.value.now) c.requires).0, c.has_key_twice.ensures.yes is)

pub returns-clause-no : goal.returns-clause-no
returns-clause-no c = λ is. unique c.args.bytes.now (c.has_key_twice.ensures.no is)
