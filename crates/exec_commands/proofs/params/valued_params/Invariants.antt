use Rattle.std.proofs.Common.{◌≡◌, take}
use Rattle.exec_commands.specs.Keys.{texts_seen}
use Rattle.exec_commands.proofs.params.valued_params.Given as goal

abbrev pub invariant-loop-name : goal.invariant-loop-name
invariant-loop-name l = l.params ≡ texts_seen (take l.name-index l.members)
