use Rattle.std.proofs.Common.{◌≡◌, ◌+◌, ◌≤◌, drop}
use Rattle.json.specs.Lex.{between, lex}
use Rattle.exec_commands.specs.KeyCounts.{colons, mode_of}
use Rattle.exec_commands.proofs.counts.colons_in.Given as goal

-- the colons so far, and those of what is left, are all
abbrev pub invariant-loop-byte : goal.invariant-loop-byte
invariant-loop-byte l =
    (l.colons + colons (lex (mode_of l.place) (drop l.byte-index l.text)) ≡ colons (lex between l.text)) × (l.colons ≤ l.byte-index)
