use Rattle.std.proofs.Common.{◌≡◌, ◌++◌, length}
use Rattle.std.specs.Vec.Iter.{into_iter_items, into_iter_len}
use Rattle.exec_state.specs.Seen.{seen_all, monitors_all}
use Rattle.exec_state.specs.StateValue.{dues_by_id}
use Rattle.exec_state.proofs.Restored.{due_by_id}
use Rattle.exec_state.proofs.registry.Registry.from_parts.Given as goal

abbrev pub invariant-loop-part : goal.invariant-loop-part
invariant-loop-part g l = (seen_all l.resources.entries ++ into_iter_items l.part-iterator ≡ l.fn.parts.items)
    × (monitors_all l.resources.entries ≡ due_by_id l.due (seen_all l.resources.entries))
    × (into_iter_len l.part-iterator ≡ length (into_iter_items l.part-iterator))
    × (l.dues.dues ≡ dues_by_id (monitors_all l.resources.entries))
