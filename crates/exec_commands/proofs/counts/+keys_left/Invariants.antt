use Rattle.std.proofs.Common.{◌≡◌, ◌+◌, drop}
use Rattle.serde_json.specs.View.{items_view, members_view}
use Rattle.exec_commands.specs.KeyCounts.{members_in_items, members_in_members}
use Rattle.exec_commands.proofs.counts.+keys_left.Given as goal

-- what is left after these items, and those still to come
abbrev pub invariant-left_by_items-loop-item : goal.invariant-left_by_items-loop-item
invariant-left_by_items-loop-item l =
    l.left + members_in_items (items_view l.item-items) ≡ l.keys + members_in_items (items_view (drop l.item-index l.item-items))

abbrev pub invariant-left_by_members-loop-key : goal.invariant-left_by_members-loop-key
invariant-left_by_members-loop-key l =
    l.left + members_in_members (members_view l.members.entries) ≡ l.keys + members_in_members (members_view l._key-iterator)
