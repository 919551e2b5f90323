use Rattle.std.proofs.Common.{sym, ◌∙◌, arith}
use Rattle.recurring.proofs.Dues.{remove-others, others-none, none_found}
use Rattle.recurring.proofs.Tied.{tied_removed}
use Rattle.recurring.proofs.due_index.DueIndex.forget.Goals as goal

pub remove-requires : goal.remove-requires
remove-requires g c = omega (arith, c.in-Some.ensures.within, c.self.invariant.room)

pub invariant_of-self : goal.invariant_of-self
invariant_of-self g c =
    rw (c.shift_remove_index.ensures.entries, c.remove.ensures)
    (tied_removed c.self.inside.resources.entries c.self.inside.firsts c.in-Some.index c.self.invariant c.in-Some.ensures.within)

pub returns-in_default : goal.returns-in_default
returns-in_default g c =
    let es = c.self.inside.resources.entries in
    rw (← c.self.view_is) (record { dues = sym (others-none c.args.id.now es (none_found _ c.in_default.ensures.found)) })

pub returns : goal.returns
returns g c =
    let es = c.self.inside.resources.entries in
    rw (← c.self.view_is) (record {
      dues = c.shift_remove_index.ensures.entries
          ∙ remove-others c.args.id.now es c.in-Some.index c.get_index_of.ensures.unique c.in-Some.ensures.index;
    })
