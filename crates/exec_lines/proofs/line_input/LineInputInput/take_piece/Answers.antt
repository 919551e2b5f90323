use Rattle.std.proofs.Common.{◌≢◌, [], rules}
use Rattle.std.proofs.lemmas.List.Elements.{All-nil}
use Rattle.exec_lines.specs.Buffer.{line_bytes}
use Rattle.exec_lines.proofs.BufferLemmas.{held}
use Rattle.exec_lines.proofs.PieceLemmas.{reads-nothing}
use Rattle.exec_lines.proofs.line_input.LineInputInput.take_piece.Goals as goal

pub returns-in-Err-clause-takes : goal.returns-in-Err-clause-takes
returns-in-Err-clause-takes g c =
    record {
      part = [];
      unended = All-nil (λ b. b ≢ 10);
      kept = held (line_bytes c.args.buffer.now) (search rules);
      read = reads-nothing _ _ c.fail.result (search rules) c.fail.ensures.part;
      asked = c.fail.ensures.asked;
    }
