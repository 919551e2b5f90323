use Rattle.std.proofs.Common.{sym, []}
use Rattle.std.proofs.lemmas.List.{append-nil}
use Rattle.child_keeper.proofs.OpeningLemmas.{seen_ended}
use Rattle.child_keeper.proofs.opening.lives.Goals as goal

pub returns-then-not-is_other-clause-ended : goal.returns-then-not-is_other-clause-ended
returns-then-not-is_other-clause-ended g c =
    λ _. seen_ended (g.R.AgentSystem.view c.args.rt.now) (g.R.AgentSystem.view c.look.new.self) (g.R.AgentSystem.view c.has_member.new.rt)
    c.args.entry.now c.in-Ok.answer c.in-Ok.ensures.looked c.has_member.ensures.adopts.looked
    (c.has_ended.ensures c.if-not-has_ended.false)

pub returns-else-not-is_other-clause-ended : goal.returns-else-not-is_other-clause-ended
returns-else-not-is_other-clause-ended g c =
    λ _. seen_ended (g.R.AgentSystem.view c.args.rt.now) (g.R.AgentSystem.view c.look.new.self) (g.R.AgentSystem.view c.look.new.self)
    c.args.entry.now c.in-Ok.answer c.in-Ok.ensures.looked ([], sym (append-nil _))
    (c.has_ended.ensures c.if-not-has_ended.false)
