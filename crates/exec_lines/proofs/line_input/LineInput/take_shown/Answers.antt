use Rattle.std.proofs.Common.{◌≡◌, take, rules, subst, sym}
use Rattle.std.specs.List.{position_or_len}
use Rattle.std.specs.declared.io.Error.{Error}
use Rattle.exec_lines.specs.Lines.{is_newline}
use Rattle.exec_lines.proofs.LineLemmas.{NoNewline, none_before}
use Rattle.exec_lines.proofs.PieceLemmas.{reads-shown}
use Rattle.exec_lines.proofs.line_input.LineInput.take_shown.Goals as goal

pub returns-clause-takes : goal.returns-clause-takes
returns-clause-takes g c =
    let shown = g.R.Buffered.ahead c.args.self.now.reader in
    let len = c.line_len-len.result in
    let index : len ≡ position_or_len is_newline shown = search rules in
    record {
      part = take len shown;
      unended = subst (λ n. NoNewline (take n shown)) (sym index) (none_before shown);
      kept = search rules;
      read = reads-shown Error _ _ shown len c.of-piece.result index (search rules) c.requires.end (search rules);
      asked = search rules;
    }
