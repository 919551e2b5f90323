use Rattle.std.proofs.Common.{◌++◌, List, OnOk, sym, subst, ◌∙◌}
use Rattle.ocf_types.specs.Expected.{has_failed}
use Rattle.ocf_model.specs.Indexes.{entry_at}
use Rattle.resource_status.specs.Counts.{Tallies}
use Rattle.resource_status.specs.Runs.{Ran}
use Rattle.resource_status.proofs.RunLemmas.{ended_one}
use Rattle.resource_status.proofs.counting.count_index.Goals as goal

pub returns : goal.returns
returns c = record {
  counted = λ runs were.
      let e = entry_at c.args.state.now.state c.args.index in
      let one = ended_one c.args.change.now e c.id_at-id.result.now c.in-Some.outcome c.in-Some-running_at.running c.failed.result c.id_at-id.ensures
      (sym c.end_of.ensures ∙ c.in-Some.is) (sym c.running_at.ensures ∙ c.in-Some-running_at.is)
      (c.failed.ensures ∙ (λ i. has_failed (c.action.ensures i) (c.check.ensures i).expect c.in-Some.outcome)) in
      subst (λ (l : List Ran). OnOk c.add.result (Tallies c.add.new.counts.entries (runs ++ l))) (sym one) (c.add.ensures.counted runs were);
}
