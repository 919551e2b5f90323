use Rattle.executor_laws.proofs.History.Events.{runs_ascend}
use Rattle.executor_laws.proofs.histories.runs_ascend.Goals as goal

pub returns : goal.returns
returns c = runs_ascend
