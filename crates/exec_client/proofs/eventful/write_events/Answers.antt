use Rattle.exec_client.proofs.EventLemmas.{writes_more, writes_none}
use Rattle.exec_client.proofs.eventful.write_events.Goals as goal

pub loop-notice-init : goal.loop-notice-init
loop-notice-init g c = writes_none c.args.making.now.marks c.args.notices.now (g.W.Write.contents c.args.errors.now)

pub loop-notice-preserved : goal.loop-notice-preserved
loop-notice-preserved g c =
    let line = c.in_ok-write_event.ensures.written in
    writes_more c.args.making.now.marks c.args.notices.now c.loop-notice.notice-index c.notice-item.result line.0 _ _ _ c.loop-notice-test.true
    c.notice-item.is c.loop-notice.invariant line.1 line.2
