use Rattle.session_machine.proofs.AnswerLemmas.{answers_lines}
use Rattle.session_machine.proofs.LineLemmas.{lines_read, replies_tagged}
use Rattle.session_machine.proofs.laws.lemma_replies_have_tags_of_lines.Goals as goal

pub returns-clause-lines : goal.returns-clause-lines
returns-clause-lines g c = λ first s events is way. lines_read is way

pub returns-clause-tags : goal.returns-clause-tags
returns-clause-tags g c = λ first s events what is way all few answers. replies_tagged is way all few what answers

pub returns-clause-replies : goal.returns-clause-replies
returns-clause-replies g c = λ first s events what is way due. answers_lines is events s way what due
