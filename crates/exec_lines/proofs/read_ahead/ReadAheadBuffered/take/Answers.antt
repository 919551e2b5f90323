use Rattle.std.proofs.Common.{arith, rules}
use Rattle.exec_lines.proofs.AheadLemmas.{range_dropped, range_taken}
use Rattle.exec_lines.proofs.read_ahead.ReadAheadBuffered.take.Goals as goal

pub returns-clause-ahead : goal.returns-clause-ahead
returns-clause-ahead g c =
    let r = c.args.self.now in
    range_dropped r.bytes.items r.start r.end c.args.count (search (arith, rules))

pub returns-clause-taken : goal.returns-clause-taken
returns-clause-taken g c =
    let r = c.args.self.now in
    range_taken r.bytes.items r.start r.end c.args.count _ (search (arith, rules))
