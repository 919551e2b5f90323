use Rattle.std.specs.Prelude.{[], ◌∷◌, ◌++◌}
use Rattle.exec_lines.specs.Inputs.InputEvent.{Took}
use Rattle.exec_lines.proofs.line_input.LineInput.take_shown.Given as goal

abbrev pub ghost-follow : goal.ghost-follow
ghost-follow g a = a.self.now.asked ++ Took a.call.now.0.now a.call.now.1 ∷ []
