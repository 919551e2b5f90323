use Rattle.recurring.specs.DueIndex.{pairs_of_all}
use Rattle.recurring.proofs.AnyDue.{any_first, any_none}
use Rattle.recurring.proofs.due_index.DueIndex.any_due.Goals as goal

pub returns-in-Some : goal.returns-in-Some
returns-in-Some g c =
    any_first (pairs_of_all c.args.self.now.dues) c.in-Some.due c.get.result c.args.now c.get.ensures.value c.in-Some.ensures

pub returns-in-None : goal.returns-in-None
returns-in-None g c = any_none (pairs_of_all c.args.self.now.dues) c.args.now c.in-None.ensures
