use Rattle.std.proofs.Common.{◌≡◌, ◌++◌, take}
use Rattle.std.specs.List.{flat_map}
use Rattle.ocf_model.specs.Indexes.{at_index, id_at}
use Rattle.exec_metrics.specs.Samples.{age_of_monitor}
use Rattle.exec_metrics.proofs.monitors.add_ages.Given as goal

abbrev pub invariant-loop-at : goal.invariant-loop-at
invariant-loop-at l =
    let r = at_index l.state.state l.index in
    l.text ≡ l.fn.text ++ flat_map (age_of_monitor l.now (id_at l.state.state l.index) r.history.ended) (take l.at r.recurring)
