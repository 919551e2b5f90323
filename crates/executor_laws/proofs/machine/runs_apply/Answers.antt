use Rattle.executor_laws.proofs.Machines.Runs.{runs_apply}
use Rattle.executor_laws.proofs.machine.runs_apply.Goals as goal

pub returns : goal.returns
returns c = runs_apply
