use Rattle.std.proofs.Common.{◌++◌, List, OnOk, subst, append_assoc}
use Rattle.std.specs.List.{flat_map}
use Rattle.resource_status.specs.Facts.{FactOf, IsRecordOf, ended_facts, named_facts}
use Rattle.resource_status.proofs.facts.take_event.Goals as goal

pub returns : goal.returns
returns c = record {
  recorded = λ facts were.
      let v = c.args.event.now in
      let named = named_facts v.change in
      let ended = flat_map (ended_facts v) c.args.state.now.state.resources in
      subst (λ (l : List FactOf). OnOk c.take_ended.result (IsRecordOf c.take_ended.new.recorded.entries l)) (append_assoc facts named ended)
      (c.take_ended.ensures.recorded (facts ++ named) (c.in_ok-take_named.ensures.recorded facts were));
}
