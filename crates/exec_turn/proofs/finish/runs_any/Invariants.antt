use Rattle.std.proofs.Common.{◌≡◌, false, take}
use Rattle.std.specs.Prelude.{is_some}
use Rattle.std.specs.List.{list_any}
use Rattle.exec_turn.proofs.finish.runs_any.Given as goal

abbrev pub invariant-loop-index : goal.invariant-loop-index
invariant-loop-index g l =
    record { none : list_any (λ e. is_some e.1.history.running) (take l.index l.state.state.resources) ≡ false }
