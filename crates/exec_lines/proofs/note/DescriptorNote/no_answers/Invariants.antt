use Rattle.exec_lines.specs.Descriptors.{no_answers}
use Rattle.exec_lines.proofs.note.DescriptorNote.no_answers.Given as goal

abbrev pub ghost-of : goal.ghost-of
ghost-of a = no_answers
