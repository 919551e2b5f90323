use Rattle.std.proofs.Common.{◌<◌, length, ap, arith}
use Rattle.indexmap.specs.IndexMap.{set_value_at, spare}
use Rattle.recurring.proofs.Tied.{tied_written, room-written}
use Rattle.recurring.proofs.due_index.DueIndex.renew_at.Goals as goal

pub set-requires : goal.set-requires
set-requires g c =
    let within : c.args.index < length c.self.inside.resources.entries = rw (← c.self.view_is) at c.requires in
    omega (arith, within, c.self.invariant.room)

pub invariant_of-self : goal.invariant_of-self
invariant_of-self g c =
    let within : c.args.index < length c.self.inside.resources.entries = rw (← c.self.view_is) at c.requires in
    rw c.set.ensures (tied_written c.self.inside.resources.entries c.self.inside.firsts c.args.index c.renew-first.new.self
    c.renew-first.result c.self.invariant within (rw c.renew-first.ensures.calls c.renew-first.ensures.first))

pub returns-clause-dues : goal.returns-clause-dues
returns-clause-dues g c = rw (← c.self.view_is) (ap (set_value_at c.self.inside.resources.entries c.args.index) c.renew-first.ensures.calls)

pub returns-clause-room : goal.returns-clause-room
returns-clause-room g c =
    rw (← c.self.view_is, c.set.ensures) (room-written c.self.inside.resources.entries c.self.inside.firsts c.args.index c.renew-first.new.self
    c.renew-first.result (spare c.self.inside.resources))
