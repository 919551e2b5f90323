use Rattle.exec_lines.specs.Descriptors.{after_poll}
use Rattle.exec_lines.proofs.polled.Polled.is_readable.Given as goal

abbrev pub ghost-follow : goal.ghost-follow
ghost-follow g a = after_poll a.self.now.answers a.call.now.0 a.call.now.1
