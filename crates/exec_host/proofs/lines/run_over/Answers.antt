use Rattle.std.proofs.Common.{ap, refl}
use Rattle.session_machine.specs.EdgeView.{EdgeView}
use Rattle.exec_host.proofs.LineLemmas.{ended_from, opens_so}
use Rattle.exec_host.proofs.lines.run_over.Goals as goal

pub run_lines-run-requires-clause-begun : goal.run_lines-run-requires-clause-begun
run_lines-run-requires-clause-begun g c = opens_so (ap (λ (v : EdgeView _). v.trace) c.new-edge.ensures) c.requires.new

pub returns-clause-runs : goal.returns-clause-runs
returns-clause-runs g c = record {
  faithful = c.lemma_faithful.ensures.faithful;
  ends = ended_from (ap (λ (v : EdgeView _). v.trace) c.new-edge.ensures) c.run_lines-run.ensures.ends;
  closes = c.run_lines-run.ensures.reported;
  sent = refl;
}
