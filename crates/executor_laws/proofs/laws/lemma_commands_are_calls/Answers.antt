use Rattle.executor.specs.CommandExchangeLemmas.{commands_called}
use Rattle.executor_laws.proofs.laws.lemma_commands_are_calls.Goals as goal

pub returns : goal.returns
returns g c now = commands_called g.S.Store.view now
