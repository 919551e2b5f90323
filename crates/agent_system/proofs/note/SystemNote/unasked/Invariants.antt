use Rattle.std.proofs.Common.{None}
use Rattle.agent_system.specs.SystemView.{unasked}
use Rattle.agent_system.proofs.note.SystemNote.unasked.Given as goal

abbrev pub ghost-at : goal.ghost-at
ghost-at a = unasked None

abbrev pub ghost-follow : goal.ghost-follow
ghost-follow a = unasked a.call.now
