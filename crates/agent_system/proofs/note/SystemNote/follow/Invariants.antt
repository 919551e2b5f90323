use Rattle.agent_system.proofs.note.SystemNote.follow.Given as goal

abbrev pub ghost-at : goal.ghost-at
ghost-at g a = g.next
