use Rattle.exec_lines.specs.Descriptors.{after_read}
use Rattle.exec_lines.proofs.polled.Polled.read.Given as goal

abbrev pub ghost-follow : goal.ghost-follow
ghost-follow g a = after_read a.self.now.answers a.call.now.0 a.call.now.1.now
