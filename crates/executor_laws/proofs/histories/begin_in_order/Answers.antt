use Rattle.executor_laws.proofs.History.Order.{begin_in_order}
use Rattle.executor_laws.proofs.histories.begin_in_order.Goals as goal

pub returns : goal.returns
returns c = begin_in_order
