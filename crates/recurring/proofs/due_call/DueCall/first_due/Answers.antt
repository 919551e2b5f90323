use Rattle.std.proofs.Common.{◌≤◌, rules}
use Rattle.recurring.proofs.FirstDue.{first_due_of}
use Rattle.recurring.proofs.due_call.DueCall.first_due.Goals as goal

pub returns-in-Some : goal.returns-in-Some
returns-in-Some c = λ xs others.
    let due : c.args.self.due ≤ c.args.now = search rules in
    first_due_of xs c.args.now c.args.self c.in-Some.other c.first_of.result due
    c.first_of.ensures.one c.first_of.ensures.before_self c.first_of.ensures.before_other (rw c.in-Some.is at others)
