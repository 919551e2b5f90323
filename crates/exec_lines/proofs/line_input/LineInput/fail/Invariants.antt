use Rattle.std.specs.Prelude.{[], ◌∷◌, ◌++◌}
use Rattle.exec_lines.specs.Inputs.{took}
use Rattle.exec_lines.proofs.line_input.LineInput.fail.Given as goal

abbrev pub ghost-follow : goal.ghost-follow
ghost-follow g a = a.self.now.asked ++ took [] a.call.now ∷ []
