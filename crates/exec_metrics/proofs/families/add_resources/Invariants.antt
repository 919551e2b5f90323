use Rattle.std.proofs.Common.{◌≡◌, ◌++◌, take}
use Rattle.std.specs.List.{flat_map}
use Rattle.exec_metrics.specs.Metrics.{measure_of, samples}
use Rattle.exec_metrics.proofs.families.add_resources.Given as goal

abbrev pub invariant-loop-index : goal.invariant-loop-index
invariant-loop-index l = l.text ≡ l.fn.text ++ flat_map (samples (measure_of l.taken) l.family) (take l.index l.state.state.resources)
