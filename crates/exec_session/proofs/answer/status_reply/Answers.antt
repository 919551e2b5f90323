use Rattle.std.proofs.Common.{ap, inl, refl, ◌∙◌}
use Rattle.resource_status.specs.Statuses.{statuses_of}
use Rattle.exec_session.proofs.answer.status_reply.Goals as goal

pub returns-in-Ok : goal.returns-in-Ok
returns-in-Ok g c = record {
  status = inl (c.in-Ok.statuses, c.args.reasons.now, refl, c.in-Ok.ensures.statuses ∙ ap (statuses_of c.args.reasons.now) c.state.ensures.state);
}
