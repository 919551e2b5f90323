use Rattle.exec_lines.specs.Descriptors.{after_flush}
use Rattle.exec_lines.proofs.polled.Polled.flush.Given as goal

abbrev pub ghost-follow : goal.ghost-follow
ghost-follow g a = after_flush a.self.now.answers a.call.now
