use Rattle.executor_laws.proofs.History.Runs.{ends_between}
use Rattle.executor_laws.proofs.histories.ends_between.Goals as goal

pub returns : goal.returns
returns c = ends_between
