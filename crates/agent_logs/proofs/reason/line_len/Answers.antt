use Rattle.std.proofs.Common.{◌≡◌, ◌<◌, get_or, sym, rules, arith, eq-eqb, ne_eqb, length}
use Rattle.std.proofs.lemmas.List.Sums.{position_or_len_is}
use Rattle.agent_logs.specs.Reasons.{is_newline}
use Rattle.agent_logs.proofs.reason.line_len.Goals as goal

pub returns-in-Some-clause-len : goal.returns-in-Some-clause-len
returns-in-Some-clause-len c =
    let bytes = c.args.bytes.now in
    let here : get_or bytes c.in-Some.len 0 ≡ 10 = search rules in
    let within : c.in-Some.len < length bytes = search rules in
    sym (position_or_len_is is_newline bytes c.in-Some.len 0 (omega (arith, within)) (λ k h. ne_eqb _ 10 (search rules))
    (λ _. eq-eqb _ 10 here))

pub returns-in-None-clause-len : goal.returns-in-None-clause-len
returns-in-None-clause-len c =
    let bytes = c.args.bytes.now in
    sym (position_or_len_is is_newline bytes (length bytes) 0 (omega arith) (λ k h. ne_eqb _ 10 (search rules))
    (λ h. absurd (omega (arith, h))))
