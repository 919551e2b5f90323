use Rattle.exec_lines.specs.Descriptors.{after_write}
use Rattle.exec_lines.proofs.polled.Polled.write.Given as goal

abbrev pub ghost-follow : goal.ghost-follow
ghost-follow g a = after_write a.self.now.answers a.call.now.0 a.call.now.1.now
