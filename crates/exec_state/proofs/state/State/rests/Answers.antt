use Rattle.exec_state.specs.StateValue.{StateValue}
use Rattle.exec_state.specs.RegistryView.{value_of}
use Rattle.exec_state.proofs.Resting.{rests_all}
use Rattle.exec_state.proofs.state.State.rests.Goals as goal

pub returns : goal.returns
returns g c = λ known.
    let s : StateValue = value_of g.A.Grows.refuses c.self.inside.next_call c.self.inside.next_run c.self.inside.clock c.self.inside.registry in
    rw (← c.self.view_is) (rests_all s c.args.now c.self.invariant (c.rests.ensures known))
