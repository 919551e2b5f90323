use Rattle.std.proofs.Common.{◌≡◌, ◌<◌, All, arith, length, refl, subst, sym, take, true, ◌∙◌}
use Rattle.process_ends.specs.Endings.{IsSearched, given_up_of}
use Rattle.process_ends.proofs.EndingLemmas.{ends_trans}
use Rattle.process_ends.proofs.IndexLemmas.{all_whole, set_given_up, set_more, set_same_actions}
use Rattle.process_ends.proofs.search.find_all.Goals as goal

pub returns-in_err-are_new-clause-given_up : goal.returns-in_err-are_new-clause-given_up
returns-in_err-are_new-clause-given_up g c =
    set_given_up g.R.AgentSystem.process_of (g.R.AgentSystem.view c.loop-at.rt).sights (g.R.AgentSystem.view c.find_more.new.rt).sights
    c.loop-at.actions c.loop-at.at c.find_more.new.self c.loop-at.invariant.given_up c.find_more.ensures.given_up

pub returns-in_err-are_new-clause-same : goal.returns-in_err-are_new-clause-same
returns-in_err-are_new-clause-same g c =
    set_same_actions c.args.actions.now c.loop-at.actions c.loop-at.at c.find_more.new.self c.index-actions-at.result
    c.loop-at.invariant.same c.find_more.ensures.same

pub returns-in_err-are_new-clause-ends : goal.returns-in_err-are_new-clause-ends
returns-in_err-are_new-clause-ends g c = ends_trans c.loop-at.invariant.ends c.find_more.ensures.ends

pub loop-at-preserved : goal.loop-at-preserved
loop-at-preserved g c =
    let now = g.R.AgentSystem.view c.loop-at.rt in
    let new = g.R.AgentSystem.view c.find_more.new.rt in
    let actions = c.loop-at.actions in
    let at = c.loop-at.at in
    let b = c.find_more.new.self in
    let invariant = c.loop-at.invariant in
    let within : at < length actions = omega (arith, c.loop-at-test.true, c.loop-at.auto.actions) in
    record {
      given_up = set_given_up g.R.AgentSystem.process_of now.sights new.sights actions at b invariant.given_up c.find_more.ensures.given_up;
      same = set_same_actions c.args.actions.now actions at b c.index-actions-at.result invariant.same c.find_more.ensures.same;
      ends = ends_trans invariant.ends c.find_more.ensures.ends;
      listed = c.find_more.ensures.table ∙ invariant.listed;
      searched = set_more (λ x. x.is_due ≡ true → IsSearched new.sights.table (given_up_of x)) actions at b within
          (subst (λ t. All (λ x. x.is_due ≡ true → IsSearched t (given_up_of x)) (take at actions)) (sym c.find_more.ensures.table)
          invariant.searched)
          c.in_ok-are_new.ensures.searched;
    }

pub returns-clause-searched : goal.returns-clause-searched
returns-clause-searched g c =
    all_whole (λ x. x.is_due ≡ true → IsSearched (g.R.AgentSystem.view c.loop-at.rt).sights.table (given_up_of x))
    c.loop-at.actions _ c.loop-at.at (omega (arith, c.loop-at-test.false, c.loop-at.auto.actions)) refl c.loop-at.invariant.searched
