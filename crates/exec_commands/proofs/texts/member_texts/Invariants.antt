use Rattle.std.proofs.Common.{◌≡◌, ◌++◌, option_map}
use Rattle.serde_json.specs.View.{members_view}
use Rattle.exec_commands.specs.Keys.{texts_seen, member_texts}
use Rattle.exec_commands.proofs.texts.member_texts.Given as goal

-- the texts so far, and those of what is left, are all
abbrev pub invariant-loop-name : goal.invariant-loop-name
invariant-loop-name l =
    option_map (λ ps. texts_seen l.members.items ++ ps) (member_texts (members_view l.name-iterator))
    ≡ member_texts (members_view l.object.entries)
