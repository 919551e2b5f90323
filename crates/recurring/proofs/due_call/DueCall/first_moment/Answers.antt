use Rattle.std.proofs.Common.{◌≡◌, refl, rules, min}
use Rattle.recurring.proofs.FirstDue.{first_moment_of}
use Rattle.recurring.proofs.due_call.DueCall.first_moment.Goals as goal

pub returns-in-None : goal.returns-in-None
returns-in-None c = λ xs others. first_moment_of xs c.args.self c.args.others c.args.self.due others (rw c.in-None.is refl)

pub returns-in-Some : goal.returns-in-Some
returns-in-Some c = λ xs others.
    let least : c.min.result ≡ min c.args.self.due c.in-Some.other = search rules in
    first_moment_of xs c.args.self c.args.others c.min.result others (rw c.in-Some.is least)
