use Rattle.std.proofs.Common.{sym, arith}
use Rattle.recurring.specs.Monitors.{pairs}
use Rattle.indexmap.specs.IndexMap.{spare}
use Rattle.recurring.proofs.Dues.{at_id-none, at_id-write, none_found}
use Rattle.recurring.proofs.Tied.{tied_written, room-written}
use Rattle.recurring.proofs.due_index.DueIndex.renew.Goals as goal

pub returns-in_default-clause-dues : goal.returns-in_default-clause-dues
returns-in_default-clause-dues g c =
    rw (← c.self.view_is) (sym (at_id-none (λ ps. pairs c.args.monitors.now) c.args.id.now c.self.inside.resources.entries
    (none_found _ c.in_default.ensures.found)))

pub set-requires : goal.set-requires
set-requires g c = omega (arith, c.in-Some.ensures.within, c.self.invariant.room)

pub invariant_of-self : goal.invariant_of-self
invariant_of-self g c =
    rw c.set.ensures (tied_written c.self.inside.resources.entries c.self.inside.firsts c.in-Some.index c.renew-first.new.self
    c.renew-first.result c.self.invariant c.in-Some.ensures.within (rw c.renew-first.ensures.calls c.renew-first.ensures.first))

pub returns-clause-dues : goal.returns-clause-dues
returns-clause-dues g c =
    rw (← c.self.view_is) (at_id-write (λ ps. pairs c.args.monitors.now) c.args.id.now c.self.inside.resources.entries
    c.in-Some.index c.index_mut-calls.result.now c.renew-first.new.self c.get_index_of.ensures.unique c.in-Some.ensures.index
    c.index_mut-calls.ensures.value c.renew-first.ensures.calls)

pub returns-clause-room : goal.returns-clause-room
returns-clause-room g c =
    rw (← c.self.view_is, c.set.ensures) (room-written c.self.inside.resources.entries c.self.inside.firsts c.in-Some.index c.renew-first.new.self
    c.renew-first.result (spare c.self.inside.resources))
