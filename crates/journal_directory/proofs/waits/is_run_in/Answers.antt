use Rattle.std.proofs.Common.{rules, ◌≡◌, ◌<◌, length, true, false, sym}
use Rattle.ocf_model.specs.Indexes.{entry_at}
use Rattle.journal_directory.proofs.WaitLemmas.{none_more, one_runs, runs}
use Rattle.journal_directory.proofs.waits.is_run_in.Goals as goal

pub loop-index-preserved : goal.loop-index-preserved
loop-index-preserved c =
    let s = c.args.state.now.state in
    let lt : c.loop-index.index < length s.resources = search rules in
    let is : runs c.args.run (entry_at s c.loop-index.index) ≡ false = search rules in
    none_more c.args.run s c.loop-index.index lt c.loop-index.invariant is

pub returns-then-is_run_at : goal.returns-then-is_run_at
returns-then-is_run_at c =
    let s = c.args.state.now.state in
    let lt : c.loop-index.index < length s.resources = search rules in
    let is : runs c.args.run (entry_at s c.loop-index.index) ≡ true = search rules in
    sym (one_runs c.args.run s c.loop-index.index lt is)
