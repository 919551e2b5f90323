use Rattle.std.proofs.Common.{◌∙◌, Bool, Result, ap, inr, subst}
use Rattle.exec_faults.specs.declared.fault.Fault.{Fault}
use Rattle.exec_program.specs.Runs.{EndsBy, judged}
use Rattle.exec_program.proofs.run.served.Goals as goal

pub ended_over-ended-requires-clause-may : goal.ended_over-ended-requires-clause-may
ended_over-ended-requires-clause-may g c = λ r h. c.requires.may r (inr (inr h))

pub returns-clause-serves : goal.returns-clause-serves
returns-clause-serves g c = record {
  end = record {
    ran = c.answer_lines-lines.result.ended;
    sent = c.answer_lines-lines.ensures.runs.0;
    store = c.answer_lines-lines.result.store;
    agents = c.answer_lines-lines.result.children;
  };
  lines = c.answer_lines-lines.ensures.runs.2;
  leaves = c.into_disk-disk.ensures.value;
  ends = subst (λ (r : Result Unit Fault). EndsBy g.H.Host.asked c.args.options c.args.watch.now r c.ended_over-ended.result)
      (c.judged-ended.ensures.judged ∙ (ap (judged c.args.options c.answer_lines-lines.result.has_failed) c.report_failed_device-ended.ensures
      ∙ ap (λ (b : Bool). judged c.args.options b c.answer_lines-lines.result.ended) c.answer_lines-lines.ensures.runs.1))
      c.ended_over-ended.ensures.ends;
}
