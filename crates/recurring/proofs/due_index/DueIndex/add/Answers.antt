use Rattle.std.proofs.Common.{sym, arith, ◌≡◌, ◌++◌, [], ◌∷◌, Some, None, ◌∙◌}
use Rattle.std.specs.Map.{lookup}
use Rattle.std.specs.Str.{bytes_eq}
use Rattle.indexmap.specs.IndexMap.{spare}
use Rattle.recurring.proofs.Dues.{at_id-write, none_found}
use Rattle.recurring.proofs.Tied.{tied_written, room-written}
use Rattle.recurring.proofs.due_index.DueIndex.add.Goals as goal

pub push-requires : goal.push-requires
push-requires g c =
    let there : lookup (bytes_eq c.args.id.now) c.self.inside.resources.entries ≡ Some c.index_mut-calls.result.now
    = sym c.in-Some.ensures.value ∙ c.index_mut-calls.ensures.value in
    rw (← c.self.view_is, there) at c.requires.kept

pub unreachable-requires : goal.unreachable-requires
unreachable-requires g c =
    let none : lookup (bytes_eq c.args.id.now) c.self.inside.resources.entries ≡ None = none_found _ c.in_default.ensures.found in
    rw (← c.self.view_is, none) at c.requires.kept

pub set-requires : goal.set-requires
set-requires g c = omega (arith, c.in-Some.ensures.within, c.self.invariant.room)

pub invariant_of-self : goal.invariant_of-self
invariant_of-self g c =
    rw c.set.ensures (tied_written c.self.inside.resources.entries c.self.inside.firsts c.in-Some.index c.push.new.self
    c.first_moment-first.result c.self.invariant c.in-Some.ensures.within c.first_moment-first.ensures)

pub returns-clause-dues : goal.returns-clause-dues
returns-clause-dues g c =
    rw (← c.self.view_is) (at_id-write (λ ps. ps ++ (c.args.due, c.args.call) ∷ []) c.args.id.now c.self.inside.resources.entries
    c.in-Some.index c.index_mut-calls.result.now c.push.new.self c.get_index_of.ensures.unique c.in-Some.ensures.index
    c.index_mut-calls.ensures.value c.push.ensures)

pub returns-clause-room : goal.returns-clause-room
returns-clause-room g c =
    rw (← c.self.view_is, c.set.ensures) (room-written c.self.inside.resources.entries c.self.inside.firsts c.in-Some.index c.push.new.self
    c.first_moment-first.result (spare c.self.inside.resources))
