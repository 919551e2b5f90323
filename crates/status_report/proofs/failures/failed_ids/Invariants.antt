use Rattle.std.proofs.Common.{◌≡◌, take}
use Rattle.std.specs.List.{flat_map}
use Rattle.status_report.specs.Failed.{failed_id}
use Rattle.status_report.proofs.failures.failed_ids.Given as goal

abbrev pub invariant-loop-index : goal.invariant-loop-index
invariant-loop-index l = l.ids.items ≡ flat_map (failed_id l.options) (take l.index l.state.state.resources)
