use Rattle.std.proofs.Common.{◌≡◌, map, take}
use Rattle.exec_replies.specs.Replies.{statuses_in}
use Rattle.resource_status.specs.Statuses.{status_of}
use Rattle.resource_status.proofs.status_data.statuses_of.Given as goal

abbrev pub invariant-loop-index : goal.invariant-loop-index
invariant-loop-index l = statuses_in l.statuses ≡ map (status_of l.reasons) (take l.index l.state.state.resources)
