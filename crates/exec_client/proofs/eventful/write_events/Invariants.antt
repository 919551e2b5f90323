use Rattle.std.proofs.Common.{take}
use Rattle.exec_client.specs.Events.{WritesEvents}
use Rattle.exec_client.proofs.eventful.write_events.Given as goal

abbrev pub invariant-loop-notice : goal.invariant-loop-notice
invariant-loop-notice g l =
    WritesEvents l.making.marks (take l.notice-index l.notices) (g.W.Write.contents l.fn.errors) (g.W.Write.contents l.errors)
