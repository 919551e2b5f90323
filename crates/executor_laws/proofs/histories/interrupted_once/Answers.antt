use Rattle.executor_laws.proofs.History.TurnAnswers.{interrupted_once}
use Rattle.executor_laws.proofs.histories.interrupted_once.Goals as goal

pub returns : goal.returns
returns c = interrupted_once
