use Rattle.serde_json.specs.View.{view}
use Rattle.exec_commands.proofs.LeaveLemmas.{reads_else, reads_plain}
use Rattle.exec_commands.proofs.read.read_command.Goals as goal

pub returns-clause-stays : goal.returns-clause-stays
returns-clause-stays c = reads_else (view c.in_ok-value_of.field-0) c.line_of.result c.line_of.ensures.ok

pub returns-clause-plain : goal.returns-clause-plain
returns-clause-plain c = reads_plain (view c.in_ok-value_of.field-0) c.line_of.result c.line_of.ensures.ok
