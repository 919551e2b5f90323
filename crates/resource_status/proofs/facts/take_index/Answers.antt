use Rattle.std.proofs.Common.{◌++◌, List, OnOk, sym, subst, ◌∙◌}
use Rattle.ocf_model.specs.Indexes.{entry_at}
use Rattle.resource_status.specs.Facts.{FactOf, IsRecordOf}
use Rattle.resource_status.proofs.FactLemmas.{ended_one}
use Rattle.resource_status.proofs.facts.take_index.Goals as goal

pub returns : goal.returns
returns c = record {
  recorded = λ facts were.
      let e = entry_at c.args.state.now.state c.args.index in
      let one = ended_one c.args.event.now e c.id_at-id.result.now c.in-Some.outcome c.in-Some-running_at.running c.ended_of-ended.result c.id_at-id.ensures
      (sym c.end_of.ensures ∙ c.in-Some.is) (sym c.running_at.ensures ∙ c.in-Some-running_at.is) c.ended_of-ended.ensures in
      subst (λ (l : List FactOf). OnOk c.take.result (IsRecordOf c.take.new.recorded.entries (facts ++ l))) (sym one) (c.take.ensures.recorded facts were);
}
