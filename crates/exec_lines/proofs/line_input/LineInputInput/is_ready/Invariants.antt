use Rattle.std.specs.Prelude.{[], ◌∷◌, ◌++◌}
use Rattle.exec_lines.specs.Inputs.InputEvent.{Polled}
use Rattle.exec_lines.proofs.line_input.LineInputInput.is_ready.Given as goal

abbrev pub ghost-follow : goal.ghost-follow
ghost-follow g a = a.self.now.asked ++ Polled a.call.now.0 a.call.now.1 ∷ []
