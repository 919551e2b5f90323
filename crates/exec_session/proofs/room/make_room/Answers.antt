use Rattle.exec_session.proofs.RoomLemmas.{room_is_there, room_made}
use Rattle.exec_session.proofs.room.make_room.Goals as goal

pub returns-then-not-is_tidy_due-clause-makes : goal.returns-then-not-is_tidy_due-clause-makes
returns-then-not-is_tidy_due-clause-makes g c =
    room_is_there g.E.Store.Store.view _ c.args.now c.each.result c.args.executor.now c.rules.result c.each.ensures.least c.rules.ensures
    c.if-not-is_tidy_due.ensures

pub returns-clause-makes : goal.returns-clause-makes
returns-clause-makes g c =
    room_made g.E.Store.Store.view _ c.args.now c.each.result c.args.executor.now c.tidy_timed.new.executor c.tidy_timed.result c.rules.result
    c.each.ensures.least c.requires.«open» c.rules.ensures c.if-not-is_tidy_due.ensures c.tidy_timed.ensures.tidies
