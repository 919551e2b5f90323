-- Commands that wait to be answered together.
use Rattle.std.specs.Prelude.{List}
use Rattle.ocf_types.specs.Kinds.{Command}
use Rattle.ocf_model.specs.Answer.{Reply}
use Rattle.exec_session.specs.declared.gathered.Gathered.{Gathered}

-- the commands that wait, in their order
abbrev pub waiting : Gathered → List Command
waiting gathered = gathered.commands.items

-- the last replies
abbrev pub replied : Gathered → List Reply
replied gathered = gathered.replies.items
