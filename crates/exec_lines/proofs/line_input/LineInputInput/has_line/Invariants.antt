use Rattle.std.specs.Prelude.{[], ◌∷◌, ◌++◌}
use Rattle.exec_lines.specs.Inputs.InputEvent.{Peeked}
use Rattle.exec_lines.proofs.line_input.LineInputInput.has_line.Given as goal

abbrev pub ghost-follow : goal.ghost-follow
ghost-follow g a = a.self.now.asked ++ Peeked a.call.now ∷ []
