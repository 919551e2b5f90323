use Rattle.std.proofs.Common.{◌≤◌, arith, slice_index_or}
use Rattle.child_keeper.proofs.WaitLemmas.{killed_later, part_same, reported_all, reported_processes}
use Rattle.process_ends.specs.Endings.{processes}
use Rattle.child_keeper.proofs.waits.Waits.go_on.Goals as goal

pub returns-then-not-any_unreported-clause-rest : goal.returns-then-not-any_unreported-clause-rest
returns-then-not-any_unreported-clause-rest g c = part_same (processes c.args.self.now.waits.items)

pub returns-clause-given_up : goal.returns-clause-given_up
returns-clause-given_up g c =
    rw c.report_fresh.ensures.reported (reported_all g.R.AgentSystem.process_of _ c.await_ended.new.waits.items c.await_ended.ensures.given_up)

pub returns-clause-killed : goal.returns-clause-killed
returns-clause-killed g c =
    λ k d within fresh.
    let due : (slice_index_or c.args.self.now.waits.items k d).what.until ≤ c.millis_now-now.result = omega (arith, fresh.0) in
    killed_later _ _ _ _ c.await_ended.ensures.ends (c.end_due.ensures.killed k d within due)

pub returns-clause-rest : goal.returns-clause-rest
returns-clause-rest g c =
    rw (c.report_fresh.ensures.reported, reported_processes, ← c.end_due.ensures.same) c.await_ended.ensures.rest
