use Rattle.std.proofs.Common.{rules, ◌≡◌, ℕ, ◌<◌, ◌≤◌, ◌++◌, ◌∷◌, [], List, length, map, take, ap, sym, subst, ◌∙◌}
use Rattle.std.proofs.lemmas.List.{map_more, take_all}
use Rattle.ocf_model.specs.Indexes.{entry_at, no_entry}
use Rattle.ocf_model.specs.Resource.{Resource}
use Rattle.resource_status.specs.Conditions.{held_in}
use Rattle.resource_status.specs.Facts.{FactOf, IsRecordOf, fact_of, recorded_at}
use Rattle.resource_status.specs.declared.condition.Recorded.{Recorded}
use Rattle.resource_status.specs.declared.facts.Fact.TheVariants.{Held}
use Rattle.resource_status.proofs.facts.recorded_in.Goals as goal

abbrev fact : List ℕ × Resource → FactOf
fact e = fact_of e.0 (Held (held_in e.1.history))

pub loop-index-init : goal.loop-index-init
loop-index-init c = λ id. ap (λ (l : List (List ℕ × Recorded)). recorded_at l id) c.new-recorded.ensures.empty

pub loop-index-preserved : goal.loop-index-preserved
loop-index-preserved c =
    let s = c.args.state.now.state in
    let i = c.loop-index.index in
    let lt : i < length s.resources = search rules in
    let before = map fact (take i s.resources) in
    let one : fact_of c.id_at.result.now (Held c.held_in-held.result) ≡ fact (entry_at s i) =
    ap (λ (id : List ℕ). fact_of id (Held c.held_in-held.result)) c.id_at.ensures ∙ ap (λ (r : Recorded). fact_of (entry_at s i).0 (Held r)) c.held_in-held.ensures in
    subst (λ (l : List FactOf). IsRecordOf c.take.new.recorded.entries l)
    (ap (λ (f : FactOf). before ++ f ∷ []) one ∙ sym (map_more fact s.resources i no_entry lt))
    (c.in_ok-take.ensures.recorded before c.loop-index.invariant)

pub returns : goal.returns
returns c = record {
  recorded =
      let s = c.args.state.now.state in
      let all : length s.resources ≤ c.loop-index.index = search rules in
      subst (λ (l : List (List ℕ × Resource)). IsRecordOf c.loop-index.recorded.entries (map fact l)) (take_all c.loop-index.index s.resources all)
      c.loop-index.invariant;
}
