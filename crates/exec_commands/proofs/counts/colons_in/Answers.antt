use Rattle.std.proofs.Common.{◌≡◌, ◌+◌, ◌≤◌, ℕ, drop, get_or, sym, ap, ◌∙◌, arith, if◌then◌else◌}
use Rattle.std.proofs.lemmas.List.{drop_more, drop_all}
use Rattle.json.specs.Lex.{class, lex}
use Rattle.exec_commands.specs.KeyCounts.{colons, mode_of, next_mode}
use Rattle.exec_commands.proofs.ColonLemmas.{key_here, no_bytes, one_byte}
use Rattle.exec_commands.proofs.counts.colons_in.Goals as goal
use Rattle.exec_commands.proofs.counts.colons_in.Goals.{then-is_colon, else-is_colon}

pub loop-byte-preserved : goal.loop-byte-preserved
loop-byte-preserved c =
    let text = c.args.text.now in
    let i = c.loop-byte.byte-index in
    let mode = mode_of c.loop-byte.place in
    let x = get_or text i 0 in
    let rest = drop (i + 1) text in
    let one : colons (lex mode (drop i text)) ≡ key_here mode x + colons (lex (next_mode mode (class x)) rest) =
    ap (λ l. colons (lex mode l)) (drop_more text i 0 c.loop-byte-test.true) ∙ one_byte mode x rest in
    let next : colons (lex (mode_of c.after-place.result) rest) ≡ colons (lex (next_mode mode (class x)) rest) =
    ap (λ m. colons (lex m rest)) c.after-place.ensures in
    let told : key_here mode x ≡ (if c.is_colon.result then 1 else 0) = ap (λ b. if b then 1 else 0) (sym c.is_colon.ensures) in
    let here : (c.if-is_colon.colons ≡ c.loop-byte.colons + (if c.is_colon.result then 1 else 0)) × (c.if-is_colon.colons ≤ c.loop-byte.colons + 1) =
    elim c.if-is_colon.branch [
      | then-is_colon w ↦ let yes = ap {B = ℕ} (λ b. if b then 1 else 0) w.if-is_colon.true in (omega (arith, yes, w.colons-is), omega (arith, w.colons-is))
      | else-is_colon w ↦ let no = ap {B = ℕ} (λ b. if b then 1 else 0) w.if-is_colon.false in (omega (arith, no, w.colons-is), omega (arith, w.colons-is))
    ] in
    (omega (arith, c.loop-byte.invariant.0, one, next, told, here.0), omega (arith, c.loop-byte.invariant.1, here.1))

pub returns : goal.returns
returns c =
    let mode = mode_of c.loop-byte.place in
    let none : colons (lex mode (drop c.loop-byte.byte-index c.args.text.now)) ≡ 0 =
    ap (λ l. colons (lex mode l)) (drop_all c.loop-byte.byte-index c.args.text.now c.loop-byte-test.false) ∙ no_bytes mode in
    omega (arith, c.loop-byte.invariant.0, none)
