use Rattle.std.proofs.Common.{map, take}
use Rattle.resource_status.specs.Conditions.{held_in}
use Rattle.resource_status.specs.Facts.{IsRecordOf, fact_of}
use Rattle.resource_status.specs.declared.facts.Fact.TheVariants.{Held}
use Rattle.resource_status.proofs.facts.recorded_in.Given as goal

abbrev pub invariant-loop-index : goal.invariant-loop-index
invariant-loop-index l = IsRecordOf l.recorded.entries (map (λ e. fact_of e.0 (Held (held_in e.1.history))) (take l.index l.state.state.resources))
