use Rattle.std.proofs.Common.{◌≡◌, ◌≤◌, ◌+◌, length, IfSome}
use Rattle.std.specs.List.{range_with_len}
use Rattle.agent_logs.specs.Reasons.{last_of, reason_word}
use Rattle.agent_logs.proofs.tail.Tail.last_offset.Given as goal

abbrev pub invariant-loop-at : goal.invariant-loop-at
invariant-loop-at l =
    (l.last ≡ last_of l.self (range_with_len 0 l.at)) × IfSome l.last (λ at. at + length reason_word ≤ length l.self.bytes.now)
