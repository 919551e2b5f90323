use Rattle.std.proofs.Common.{◌≡◌, ap, ◌∙◌}
use Rattle.recurring.specs.DueIndex.{pairs_of_all}
use Rattle.exec_state.specs.Seen.{monitors_all}
use Rattle.exec_state.specs.StateValue.{all_pairs}
use Rattle.exec_state.proofs.Dues.{dues_all}
use Rattle.exec_state.proofs.registry.Registry.first_due.Goals as goal

pub returns : goal.returns
returns g c =
    let all = monitors_all c.self.inside.resources.entries in
    let same : pairs_of_all c.self.inside.dues.dues ≡ all_pairs all = ap pairs_of_all c.self.invariant.2 ∙ dues_all all in
    rw (← c.self.view_is, ← same) c.first_due.ensures
