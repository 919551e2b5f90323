use Rattle.std.proofs.Common.{◌≡◌, take}
use Rattle.ocf_types.proofs.params.Params.copied.Given as goal

abbrev pub invariant-loop-name : goal.invariant-loop-name
invariant-loop-name g l = l.entries.items ≡ take l.name-index l.name-items
