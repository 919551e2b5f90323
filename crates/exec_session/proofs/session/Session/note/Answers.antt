use Rattle.std.proofs.Common.{ap, subst}
use Rattle.session_machine.specs.Behaviours.{Trace}
use Rattle.exec_session.specs.Reading.{IsNoted}
use Rattle.exec_session.specs.Standing.{Standing}
use Rattle.exec_session.proofs.ReadLemmas.{noted_as}
use Rattle.exec_session.proofs.session.Session.note.Goals as goal

pub returns-clause-noted : goal.returns-clause-noted
returns-clause-noted g c =
    let old = g.E.Edge.trace c.self.inside.edge in
    let new = g.E.Edge.trace c.note_line-noted.new.self in
    let is = ap (λ (s : Standing g.row.E-Store.Denot). s.trace) c.self.view_is in
    subst (λ (t : Trace g.row.E-Store.Denot). IsNoted t new c.as_noted.result) is
    (noted_as old new _ c.as_noted.result _ c.note_line-noted.result c.note_line-noted.ensures.noted c.note_line-noted.ensures.refused
    c.as_noted.ensures.same c.as_noted.ensures.refused)
