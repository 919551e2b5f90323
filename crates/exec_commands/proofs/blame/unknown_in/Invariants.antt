use Rattle.std.proofs.Common.{◌≡◌}
use Rattle.serde_json.specs.View.{members_view}
use Rattle.exec_commands.specs.Blame.{unknown_in}
use Rattle.exec_commands.proofs.blame.unknown_in.Given as goal

-- the first unknown key of what is left is that of all
abbrev pub invariant-loop-name : goal.invariant-loop-name
invariant-loop-name l =
    unknown_in l.rules (members_view l.name-iterator) ≡ unknown_in l.rules (members_view l.object.entries)
