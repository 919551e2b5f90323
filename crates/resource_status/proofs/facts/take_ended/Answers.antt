use Rattle.std.proofs.Common.{rules, ◌≡◌, ◌<◌, List, ◌++◌, length, take, sym, ap, subst, ◌∙◌, append-nil}
use Rattle.std.specs.List.{flat_map}
use Rattle.resource_status.proofs.RunLemmas.{index_more, none_after, none_before}
use Rattle.resource_status.specs.Facts.{FactOf, IsRecordOf, ended_facts}
use Rattle.resource_status.proofs.FactLemmas.{ended_none}
use Rattle.resource_status.proofs.facts.take_ended.Goals as goal

pub loop-index-init : goal.loop-index-init
loop-index-init c = λ facts were.
    let s = c.args.state.now.state in
    let v = c.args.event.now in
    let none = none_before (ended_facts v) s v.change _ _ c.ending-from.ensures.range.0 c.ending-from.ensures.range.1 c.ending-from.ensures.others (ended_none v) in
    subst (λ (l : List FactOf). IsRecordOf c.args.recorded.now.entries l) (sym (ap (λ (l : List FactOf). facts ++ l) none ∙ append-nil facts)) were

pub loop-index-preserved : goal.loop-index-preserved
loop-index-preserved c = λ facts were.
    let s = c.args.state.now.state in
    let f = ended_facts c.args.event.now in
    let index = c.loop-index.index in
    let lt : index < length s.resources = search rules in
    subst (λ (l : List FactOf). IsRecordOf c.take_index.new.recorded.entries l) (index_more f s index facts lt)
    (c.in_ok-take_index.ensures.recorded (facts ++ flat_map f (take index s.resources)) (c.loop-index.invariant facts were))

pub returns : goal.returns
returns c = record {
  recorded = λ facts were.
      let s = c.args.state.now.state in
      let v = c.args.event.now in
      let f = ended_facts v in
      let to = c.ending-from.result.1 in
      let all = none_after f s v.change _ to c.ending-from.ensures.range.0 c.ending-from.ensures.range.1 c.ending-from.ensures.others (ended_none v) in
      let last : c.loop-index.index ≡ to = search rules in
      subst (λ (l : List FactOf). IsRecordOf c.loop-index.recorded.entries (facts ++ l)) (ap (λ n. flat_map f (take n s.resources)) last ∙ all)
      (c.loop-index.invariant facts were);
}
