use Rattle.exec_lines.specs.Descriptors.{after_look}
use Rattle.exec_lines.proofs.polled.Polled.is_unread.Given as goal

abbrev pub ghost-follow : goal.ghost-follow
ghost-follow g a = after_look a.self.now.answers a.call.now
