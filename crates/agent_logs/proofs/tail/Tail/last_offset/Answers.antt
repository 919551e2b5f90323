use Rattle.std.proofs.Common.{rules, ◌≡◌, ◌≤◌, ◌+◌, length, true, false, subst, sym, Some, IfSome, ◌∙◌}
use Rattle.agent_logs.specs.Reasons.{is_reason_at, reason_word}
use Rattle.agent_logs.proofs.ReasonLemmas.{offset_no, offset_yes}
use Rattle.agent_logs.proofs.tail.Tail.last_offset.Goals as goal
use Rattle.agent_logs.proofs.tail.Tail.last_offset.Goals.{then-is_reason_at, else-is_reason_at}

pub loop-at-preserved : goal.loop-at-preserved
loop-at-preserved c =
    let tail = c.args.self.now in
    elim c.if-is_reason_at.branch [
      | then-is_reason_at w ↦
          let is : is_reason_at tail c.loop-at.at ≡ true = search rules in
          let same : c.if-is_reason_at.last ≡ Some c.loop-at.at = search rules in
          let within : c.loop-at.at + length reason_word ≤ length tail.bytes.now = search rules in
          (same ∙ sym (offset_yes tail c.loop-at.at is), subst (λ l. IfSome l (λ at. at + length reason_word ≤ length tail.bytes.now)) (sym same) within)
      | else-is_reason_at w ↦
          let is : is_reason_at tail c.loop-at.at ≡ false = search rules in
          let same : c.if-is_reason_at.last ≡ c.loop-at.last = search rules in (
            same ∙ c.loop-at.invariant.0 ∙ sym (offset_no tail c.loop-at.at is),
            subst (λ l. IfSome l (λ at. at + length reason_word ≤ length tail.bytes.now)) (sym same) c.loop-at.invariant.1,
          )
    ]
