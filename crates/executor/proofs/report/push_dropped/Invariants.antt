use Rattle.std.proofs.Common.{◌≡◌, ◌++◌, map, take}
use Rattle.ocf_model.specs.Indexes.{entry_at}
use Rattle.ocf_model.specs.Notices.{drop_notice}
use Rattle.executor.proofs.report.push_dropped.Given as goal

abbrev pub invariant-loop-i : goal.invariant-loop-i
invariant-loop-i g l =
    l.notices.items ≡ l.fn.notices.items
    ++ map (drop_notice (entry_at l.state.state l.index).0 l.at) (take l.i (entry_at l.state.state l.index).1.history.queue)
