use Rattle.std.proofs.Common.{[], ◌∷◌, ap, ◌∙◌, arith}
use Rattle.std.proofs.lemmas.List.{length-map, map-append}
use Rattle.recurring.specs.declared.due_call.DueCall.{DueCall}
use Rattle.recurring.specs.DueCalls.{pair_of, pairs_of}
use Rattle.recurring.proofs.due_calls.DueCalls.push.Goals as goal

pub push-requires : goal.push-requires
push-requires c = omega (arith, rw (← c.self.view_is) at c.requires, length-map c.self.inside.calls.items pair_of)

pub returns : goal.returns
returns c =
    let new : DueCall = record { due = c.args.due; call = c.args.call } in
    rw (← c.self.view_is) (ap pairs_of c.push.ensures.items ∙ map-append pair_of c.self.inside.calls.items (new ∷ []))
