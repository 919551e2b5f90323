use Rattle.std.proofs.Common.{◌≡◌, ◌++◌}
use Rattle.exec_state.proofs.registry.Registry.ids.Given as goal

abbrev pub invariant-loop-id : goal.invariant-loop-id
invariant-loop-id g l = (goal.iterator-loop-id g).can_next l.id-iterator
    × (goal.iterator-loop-id g).is_finite l.id-iterator
    × (l.ids.items ++ l.id-iterator ≡ l.initial.id-iterator)
