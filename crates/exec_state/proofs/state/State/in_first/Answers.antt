use Rattle.std.proofs.Common.{ap}
use Rattle.ocf_model.specs.State.{Registry}
use Rattle.exec_state.specs.StateValue.{StateValue}
use Rattle.exec_state.specs.RegistryView.{value_of}
use Rattle.exec_state.proofs.Rooms.{lawful_first}
use Rattle.exec_state.proofs.state.State.in_first.Goals as goal

pub invariant_of-result : goal.invariant_of-result
invariant_of-result g c =
    let s : StateValue = value_of g.A.Grows.refuses c.self.inside.next_call c.self.inside.next_run c.self.inside.clock c.self.inside.registry in
    let t : StateValue = value_of g.A.Grows.refuses c.self.inside.next_call c.self.inside.next_run c.self.inside.clock c.in_first.new.self in
    lawful_first s.state t c.self.invariant.lawful (ap (λ (rs : Registry). record s.state { resources = rs }) c.in_first.ensures.resources)
    c.lemma_known.ensures
