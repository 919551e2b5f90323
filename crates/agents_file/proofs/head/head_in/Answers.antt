use Rattle.std.proofs.Common.{◌∙◌, [], ◌∷◌, ◌++◌, ◌-◌, ap, arith, decimal, length, replicate}
use Rattle.std.specs.Prelude.{Some}
use Rattle.agents_file.specs.Entries.{head_text}
use Rattle.agents_file.specs.Lines.{space, spaced}
use Rattle.agents_file.proofs.EntryLemmas.{number_is_field}
use Rattle.agents_file.proofs.HeadLemmas.{after_boot, after_word, dropped, long_enough, same_head, taken}
use Rattle.agents_file.proofs.LineLemmas.{first_of}
use Rattle.agents_file.proofs.head.head_in.Goals as goal

pub returns-then-rest-lt-BOOT_ID_LEN : goal.returns-then-rest-lt-BOOT_ID_LEN
returns-then-rest-lt-BOOT_ID_LEN c h is line =
    let pad = replicate (255 - length (head_text h)) space ++ 10 ∷ [] in
    let numbers = decimal h.moment ∷ decimal h.monotonic ∷ [] in
    let rest = after_word c.args.line.now c.cut.result.0.now c.cut.result.1.now h.boot pad numbers c.cut.ensures line in
    let long = long_enough 36 c.cut.result.1.now h.boot (space ∷ (spaced numbers ++ pad)) rest is.boot in
    absurd (omega (arith, long, c.if-rest-lt-BOOT_ID_LEN.true))

pub returns : goal.returns
returns c h is line =
    let pad = replicate (255 - length (head_text h)) space ++ 10 ∷ [] in
    let numbers = decimal h.moment ∷ decimal h.monotonic ∷ [] in
    let rest = after_word c.args.line.now c.cut.result.0.now c.cut.result.1.now h.boot pad numbers c.cut.ensures line in
    let boot = taken 36 c.cut.result.1.now h.boot (space ∷ (spaced numbers ++ pad)) rest is.boot in
    let more = dropped 36 c.cut.result.1.now h.boot (space ∷ (spaced numbers ++ pad)) rest is.boot in
    let text = after_boot c.split_at.result.1.now c.cut-2.result.0.now c.cut-2.result.1.now (spaced numbers ++ pad) c.cut-2.ensures
    (c.split_at.ensures.back ∙ more) in
    let one =
    first_of c.cut-2.result.1.now c.cut-3.result.0.now c.cut-3.result.1.now (decimal h.moment) pad (decimal h.monotonic ∷ [])
    c.cut-3.ensures text (number_is_field h.moment is.moment) in
    let two =
    first_of c.cut-3.result.1.now c.cut-4.result.0.now c.cut-4.result.1.now (decimal h.monotonic) pad []
    c.cut-4.ensures one.1 (number_is_field h.monotonic is.monotonic) in
    ap Some (same_head h c.copy_from_slice.new.self c.number.result c.number-2.result
    (c.copy_from_slice.ensures.after ∙ c.split_at.ensures.front ∙ boot) (c.number.ensures h.moment is.moment one.0)
    (c.number-2.ensures h.monotonic is.monotonic two.0))
