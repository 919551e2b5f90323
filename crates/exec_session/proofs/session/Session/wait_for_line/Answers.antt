use Rattle.std.proofs.Common.{◌≡◌, ◌<◌}
use Rattle.exec_session.proofs.WaitLemmas.{may_poll, polled_waits, polled_woken}
use Rattle.exec_session.proofs.session.Session.wait_for_line.Goals as goal

pub poll-requires : goal.poll-requires
poll-requires g c =
    let m = c.wait_micros-micros.new.self in
    let e = g.E.Edge.trace c.self.inside.edge in
    let same : e ≡ m.trace = cc in
    let some : 0 < c.poll_millis.result = c.poll_millis.ensures.some c.if-micros-lt1000.false in
    record {
      may =
          may_poll c.args.self.now.trace m.trace e c.poll_millis.result c.wait_micros-micros.ensures.shown same some c.wait_micros-micros.result
          c.requires.may c.requires.free c.wait_micros-micros.ensures.may c.poll_millis.ensures.part;
    }

pub returns-else-micros-lt1000-clause-waited : goal.returns-else-micros-lt1000-clause-waited
returns-else-micros-lt1000-clause-waited g c =
    let m = c.wait_micros-micros.new.self in
    let e = g.E.Edge.trace c.self.inside.edge in
    let same : e ≡ m.trace = cc in
    let some : 0 < c.poll_millis.result = c.poll_millis.ensures.some c.if-micros-lt1000.false in
    polled_waits c.args.self.now.trace m.trace e c.poll_millis.result c.wait_micros-micros.ensures.shown same some (g.E.Edge.trace c.poll.new.self)
    c.poll.result c.poll.ensures.polled

pub returns-else-micros-lt1000-clause-woken : goal.returns-else-micros-lt1000-clause-woken
returns-else-micros-lt1000-clause-woken g c =
    let m = c.wait_micros-micros.new.self in
    let e = g.E.Edge.trace c.self.inside.edge in
    let same : e ≡ m.trace = cc in
    let some : 0 < c.poll_millis.result = c.poll_millis.ensures.some c.if-micros-lt1000.false in
    polled_woken c.args.self.now.trace m.trace e c.poll_millis.result c.wait_micros-micros.ensures.shown same some (g.E.Edge.trace c.poll.new.self)
    c.poll.result c.poll.ensures.polled
