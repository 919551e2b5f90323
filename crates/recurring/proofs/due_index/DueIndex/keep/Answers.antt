use Rattle.std.proofs.Common.{◌++◌, [], ◌∷◌, ap, ◌∙◌, arith}
use Rattle.std.specs.Str.{bytes_eq}
use Rattle.indexmap.proofs.CallerLemmas.{insert_entry-new}
use Rattle.recurring.proofs.Tied.{tied_kept}
use Rattle.recurring.proofs.due_index.DueIndex.keep.Goals as goal

pub invariant_of-self : goal.invariant_of-self
invariant_of-self g c =
    let m = c.self.inside.resources in
    let absent = rw (← c.self.view_is) at c.requires.absent in
    let room = rw (← c.self.view_is) at c.requires.room in
    let kept = c.in-Ok.ensures.entries ∙ insert_entry-new bytes_eq m c.args.id c.new.result absent
    ∙ ap (λ v. m.entries ++ (c.args.id, v) ∷ []) c.new.ensures in
    rw kept (tied_kept m.entries c.args.id c.self.inside.firsts c.self.invariant (omega (arith, room)))

pub returns : goal.returns
returns g c =
    let m = c.self.inside.resources in
    let absent = rw (← c.self.view_is) at c.requires.absent in
    rw (← c.self.view_is) (c.in-Ok.ensures.entries ∙ insert_entry-new bytes_eq m c.args.id c.new.result absent
    ∙ ap (λ v. m.entries ++ (c.args.id, v) ∷ []) c.new.ensures)
