use Rattle.std.proofs.Common.{◌≡◌, ap, ◌∙◌}
use Rattle.recurring.specs.DueIndex.{Dues, pairs_at}
use Rattle.recurring.specs.Monitors.{pairs}
use Rattle.exec_state.specs.Seen.{monitors_all}
use Rattle.exec_state.specs.StateValue.{monitors_at}
use Rattle.exec_state.proofs.Dues.{dues_at}
use Rattle.exec_state.proofs.registry.Registry.due_of.Goals as goal

pub returns : goal.returns
returns g c =
    let all = monitors_all c.self.inside.resources.entries in
    let same : pairs_at c.self.inside.dues.dues c.args.id.now ≡ pairs (monitors_at all c.args.id.now)
    = ap (λ (xs : Dues). pairs_at xs c.args.id.now) c.self.invariant.2 ∙ dues_at c.args.id.now all in
    rw (← c.self.view_is, ← same) c.due_of.ensures
