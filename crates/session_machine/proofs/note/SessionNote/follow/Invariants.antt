use Rattle.session_machine.proofs.note.SessionNote.follow.Given as goal

abbrev pub ghost-at : goal.ghost-at
ghost-at g a = g.next
