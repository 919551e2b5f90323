use Rattle.std.proofs.Common.{sym, arith}
use Rattle.recurring.specs.DueIndex.{pairs_settled}
use Rattle.indexmap.specs.IndexMap.{spare}
use Rattle.recurring.proofs.Dues.{at_id-none, at_id-write, none_found}
use Rattle.recurring.proofs.Tied.{tied_written, room-written}
use Rattle.recurring.proofs.due_index.DueIndex.settle.Goals as goal

pub returns-in_default-clause-dues : goal.returns-in_default-clause-dues
returns-in_default-clause-dues g c =
    rw (← c.self.view_is) (sym (at_id-none (pairs_settled c.args.call c.args.due) c.args.id.now c.self.inside.resources.entries
    (none_found _ c.in_default.ensures.found)))

pub set-requires : goal.set-requires
set-requires g c = omega (arith, c.in-Some.ensures.within, c.self.invariant.room)

pub invariant_of-self : goal.invariant_of-self
invariant_of-self g c =
    rw c.set.ensures (tied_written c.self.inside.resources.entries c.self.inside.firsts c.in-Some.index c.settle.new.self
    c.first_moment-first.result c.self.invariant c.in-Some.ensures.within c.first_moment-first.ensures)

pub returns-clause-dues : goal.returns-clause-dues
returns-clause-dues g c =
    rw (← c.self.view_is) (at_id-write (pairs_settled c.args.call c.args.due) c.args.id.now c.self.inside.resources.entries
    c.in-Some.index c.index_mut-calls.result.now c.settle.new.self c.get_index_of.ensures.unique c.in-Some.ensures.index
    c.index_mut-calls.ensures.value c.settle.ensures)

pub returns-clause-room : goal.returns-clause-room
returns-clause-room g c =
    rw (← c.self.view_is, c.set.ensures) (room-written c.self.inside.resources.entries c.self.inside.firsts c.in-Some.index c.settle.new.self
    c.first_moment-first.result (spare c.self.inside.resources))
