use Rattle.std.proofs.Common.{ℕ, ◌<◌, ◌≢◌}
use Rattle.ocf_model.specs.Indexes.{id_at}
use Rattle.status_report.proofs.endings.index_of.Given as goal

abbrev pub invariant-loop-index : goal.invariant-loop-index
invariant-loop-index l = (index : ℕ) → index < l.index → id_at l.state.state index ≢ l.id
