use Rattle.std.proofs.Common.{rules, ◌≡◌, ◌<◌, List, ◌++◌, length, take, sym, ap, subst, ◌∙◌, append-nil}
use Rattle.std.specs.List.{flat_map}
use Rattle.resource_status.specs.Counts.{Tallies}
use Rattle.resource_status.specs.Runs.{Ran, ended_by}
use Rattle.resource_status.proofs.RunLemmas.{ended_none, index_more, none_after, none_before}
use Rattle.resource_status.proofs.counting.count_ended.Goals as goal

pub loop-index-init : goal.loop-index-init
loop-index-init c = λ runs were.
    let s = c.args.state.now.state in
    let change = c.args.change.now in
    let none = none_before (ended_by change) s change _ _ c.ending-from.ensures.range.0 c.ending-from.ensures.range.1 c.ending-from.ensures.others (ended_none change) in
    subst (λ (l : List Ran). Tallies c.args.counts.now.entries l) (sym (ap (λ (l : List Ran). runs ++ l) none ∙ append-nil runs)) were

pub loop-index-preserved : goal.loop-index-preserved
loop-index-preserved c = λ runs were.
    let s = c.args.state.now.state in
    let f = ended_by c.args.change.now in
    let index = c.loop-index.index in
    let lt : index < length s.resources = search rules in
    subst (λ (l : List Ran). Tallies c.count_index.new.counts.entries l) (index_more f s index runs lt)
    (c.in_ok-count_index.ensures.counted (runs ++ flat_map f (take index s.resources)) (c.loop-index.invariant runs were))

pub returns : goal.returns
returns c = record {
  counted = λ runs were.
      let s = c.args.state.now.state in
      let change = c.args.change.now in
      let f = ended_by change in
      let to = c.ending-from.result.1 in
      let all = none_after f s change _ to c.ending-from.ensures.range.0 c.ending-from.ensures.range.1 c.ending-from.ensures.others (ended_none change) in
      let last : c.loop-index.index ≡ to = search rules in
      subst (λ (l : List Ran). Tallies c.loop-index.counts.entries (runs ++ l)) (ap (λ n. flat_map f (take n s.resources)) last ∙ all)
      (c.loop-index.invariant runs were);
}
