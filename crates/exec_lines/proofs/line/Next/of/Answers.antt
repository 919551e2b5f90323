use Rattle.std.proofs.Common.{◌≡◌, ◌≢◌, [], length, rules, sym, ◌∙◌, true, true≢false}
use Rattle.exec_lines.specs.Buffer.{line_bytes}
use Rattle.exec_lines.specs.declared.line.Piece.TheVariants.{Nothing}
use Rattle.exec_lines.proofs.LineLemmas.{answer-full, answer-line, answer-none}
use Rattle.exec_lines.proofs.line.Next.of.Goals as goal

pub returns-then-is_end : goal.returns-then-is_end
returns-then-is_end g c = λ line kept.
    let end : (c.args.piece ≡ Nothing) × (line_bytes c.args.buffer.now ≡ []) = c.is_end.ensures.0 c.if-is_end.true in
    answer-none c.args.piece line (line_bytes c.args.buffer.now) kept end.0 end.1

pub returns-then-is_full : goal.returns-then-is_full
returns-then-is_full g c = λ line kept. answer-full c.args.piece line (line_bytes c.args.buffer.now) kept (search rules)

pub returns-else-is_full : goal.returns-else-is_full
returns-else-is_full g c = λ line kept.
    let more : length (line_bytes c.args.buffer.now) ≢ 131073 = search rules in
    answer-line c.args.piece line (line_bytes c.args.buffer.now) kept more (λ end.
    let yes : c.is_end.result ≡ true = c.is_end.ensures.1 end in
    true≢false (sym yes ∙ c.if-is_end.false))
