use Rattle.std.proofs.Common.{◌≡◌, ◌<◌, arith, length, refl, slice_index_or, true, ◌∙◌}
use Rattle.std.proofs.Math.Seq.{map-set_same}
use Rattle.std.proofs.lemmas.List.Elements.{All-weaker}
use Rattle.process_ends.specs.Endings.{IsKilled, given_up_of}
use Rattle.process_ends.proofs.EndingLemmas.{killed_earlier, killed_later, signals_trans}
use Rattle.process_ends.proofs.IndexLemmas.{all_whole, is_at, kept_at, set_given_up, set_more, set_same_actions}
use Rattle.process_ends.proofs.kill.kill_due.Goals as goal

pub loop-at-preserved : goal.loop-at-preserved
loop-at-preserved g c =
    let before = g.R.AgentSystem.view c.args.rt.now in
    let now = g.R.AgentSystem.view c.loop-at.rt in
    let new = g.R.AgentSystem.view c.kill_if_due.new.rt in
    let actions = c.loop-at.actions in
    let at = c.loop-at.at in
    let d = c.index-actions-at.result in
    let b = c.kill_if_due.new.self in
    let invariant = c.loop-at.invariant in
    let killed = c.kill_if_due.ensures in
    let within : at < length actions = omega (arith, c.loop-at-test.true, c.loop-at.auto.actions) in
    record {
      given_up = set_given_up g.R.AgentSystem.process_of now.sights new.sights actions at b invariant.given_up
          (kept_at g.R.AgentSystem.process_of now.sights new.sights at (slice_index_or actions at d) b
          (is_at g.R.AgentSystem.process_of now.sights actions at d invariant.given_up within)
          killed.signals.given_up killed.given_up killed.matched);
      signals = signals_trans invariant.signals killed.signals;
      same = set_same_actions c.args.actions.now actions at b d invariant.same killed.same;
      known = map-set_same given_up_of actions at b d killed.given_up ∙ invariant.known;
      killed = set_more (λ x. x.is_due ≡ true → IsKilled before new (given_up_of x)) actions at b within
          (All-weaker (λ x. x.is_due ≡ true → IsKilled before now (given_up_of x)) (λ x. x.is_due ≡ true → IsKilled before new (given_up_of x))
          (λ x was due. killed_later before now new (given_up_of x) killed.signals.ends (was due)) _ invariant.killed)
          (λ due. killed_earlier before now new (given_up_of b) invariant.signals.ends (killed.killed due));
    }

pub returns-clause-killed : goal.returns-clause-killed
returns-clause-killed g c =
    all_whole (λ x. x.is_due ≡ true → IsKilled (g.R.AgentSystem.view c.args.rt.now) (g.R.AgentSystem.view c.loop-at.rt) (given_up_of x))
    c.loop-at.actions _ c.loop-at.at (omega (arith, c.loop-at-test.false, c.loop-at.auto.actions)) refl c.loop-at.invariant.killed
