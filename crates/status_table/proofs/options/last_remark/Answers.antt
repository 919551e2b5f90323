use Rattle.std.proofs.Common.{sym, ◌∙◌}
use Rattle.status_table.specs.Remarks.{is_of}
use Rattle.resource_status.proofs.ResultLemmas.{last_no, last_yes}
use Rattle.status_table.proofs.options.last_remark.Goals as goal
use Rattle.status_table.proofs.options.last_remark.Goals.{then-is_of, else-is_of}

pub loop-at-preserved : goal.loop-at-preserved
loop-at-preserved c =
    let rs = c.args.remarks.now in
    let r = c.remark_at-remark.result in
    let is = is_of c.args.id.now in
    elim c.if-is_of.branch [
      | then-is_of w ↦ w.last-is ∙ sym (last_yes is rs c.loop-at.at r c.remark_at-remark.ensures (sym c.is_of.ensures ∙ w.if-is_of.true))
      | else-is_of w ↦
          w.last-is ∙ c.loop-at.invariant
          ∙ sym (last_no is rs c.loop-at.at r c.remark_at-remark.ensures (sym c.is_of.ensures ∙ w.if-is_of.false))
    ]
