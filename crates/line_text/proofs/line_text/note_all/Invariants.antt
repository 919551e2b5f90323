use Rattle.std.proofs.Common.{◌≡◌, ◌++◌, take}
use Rattle.line_text.proofs.line_text.note_all.Given as goal

abbrev pub invariant-loop-byte : goal.invariant-loop-byte
invariant-loop-byte l = l.past.items ≡ l.initial.past.items ++ take l.byte-index l.bytes
