use Rattle.std.proofs.Common.{List, ℕ, subst, sym, ◌∙◌}
use Rattle.ocf_model.specs.declared.refusal.Refusal.TheVariants.{Syntax}
use Rattle.exec_lines.specs.Buffer.{line_bytes}
use Rattle.session_machine.specs.Replies.{HasTagOf, IsReadAs}
use Rattle.exec_session.proofs.ReadLemmas.{long_or_end, no_tag, read_whole, tag_whole}
use Rattle.exec_session.proofs.reading.line_in.Goals as goal

pub returns-in-Line-clause-reads : goal.returns-in-Line-clause-reads
returns-in-Line-clause-reads c = λ bytes keeps is.
    read_whole c.args.mode (line_bytes c.args.buffer.now) bytes keeps c.read_line.result.0 (sym c.in-Line.is ∙ is)
    (subst (λ (b : List ℕ). IsReadAs c.args.mode b c.read_line.result.0) c.line.ensures c.read_line.ensures.reads)

pub returns-in-Line-clause-tag : goal.returns-in-Line-clause-tag
returns-in-Line-clause-tag c = λ bytes keeps is.
    tag_whole c.args.mode (line_bytes c.args.buffer.now) bytes keeps c.read_line.result.0 c.read_line.result.1 (sym c.in-Line.is ∙ is)
    (subst (λ (b : List ℕ). HasTagOf c.args.mode b c.read_line.result.0 c.read_line.result.1) c.line.ensures c.read_line.ensures.tag)

pub returns-in-TooLong : goal.returns-in-TooLong
returns-in-TooLong c = record {
  reads = λ bytes keeps is. long_or_end c.args.mode bytes c.args.next c.in-TooLong.is is;
  tag = λ bytes keeps is. no_tag c.args.mode bytes Syntax;
  memory = λ short. absurd cc;
}
