use Rattle.exec_state.proofs.DueLaw.{due_opened}
use Rattle.exec_state.proofs.state.State.from_parts.Goals as goal

pub returns-clause-monitors : goal.returns-clause-monitors
returns-clause-monitors g c = rw (← c.clock-clock.ensures, ← c.into_resources.ensures.value) c.in-Ok.ensures.monitors

pub returns-clause-due : goal.returns-clause-due
returns-clause-due g c = due_opened c.args.parts _ c.args.parts.clock (returns-clause-monitors g c)
