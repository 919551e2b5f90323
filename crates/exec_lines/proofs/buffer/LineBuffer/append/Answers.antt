use Rattle.std.proofs.Common.{◌≡◌, length, rules, arith, vec_len}
use Rattle.exec_lines.proofs.BufferLemmas.{appended}
use Rattle.exec_lines.proofs.buffer.LineBuffer.append.Goals as goal

pub returns : goal.returns
returns g c =
    let old = c.args.self.now.bytes.items in
    let long : length old ≡ vec_len c.args.self.now.bytes = search rules in
    appended old c.args.part.now c.extend_from_slice.new.self.items c.min-fitting.result (omega (arith, long, c.args.self.now.fits))
    (search rules) (search rules)
