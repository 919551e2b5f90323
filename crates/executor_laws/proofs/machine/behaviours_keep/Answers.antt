use Rattle.executor_laws.proofs.Machines.Claims.{runs_kept}
use Rattle.executor_laws.proofs.machine.behaviours_keep.Goals as goal

pub returns : goal.returns
returns c = runs_kept
