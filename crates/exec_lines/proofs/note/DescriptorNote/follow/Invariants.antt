use Rattle.exec_lines.proofs.note.DescriptorNote.follow.Given as goal

abbrev pub ghost-of : goal.ghost-of
ghost-of g a = g.next
