use Rattle.std.proofs.Common.{◌≡◌, ◌++◌, OnOk, subst, sym}
use Rattle.ocf_types.specs.declared.outcome.MetaFault.{MetaFault}
use Rattle.exec_replies.specs.Replies.{fault_data}
use Rattle.exec_replies.specs.Tags.{marked_tokens}
use Rattle.exec_replies.proofs.ends.put_fault.Goals as goal

pub returns-in-TooLong : goal.returns-in-TooLong
returns-in-TooLong c = record {
  ok =
      subst (λ (f : MetaFault). OnOk c.put_end-in-TooLong.result (c.put_end-in-TooLong.new.line ≡ c.args.line.now ++ marked_tokens c.args.marks (fault_data f)))
      (sym c.in-TooLong.is) c.put_end-in-TooLong.ensures.ok;
}
