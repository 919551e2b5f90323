use Rattle.std.proofs.Common.{◌≡◌, ◌+◌, ◌-◌, ◌*◌, ℕ, List, Option, length, drop, remove, ap, sym, subst, ◌∙◌, arith}
use Rattle.recurring.specs.FirstMoments.{IsTournament}
use Rattle.recurring.proofs.Tournament.{length-leaves, leaves-removed, items_of_slice}
use Rattle.recurring.proofs.first_moments.FirstMoments.remove.Goals as goal

pub remove-requires : goal.remove-requires
remove-requires g c =
    let h = c.self.invariant in
    let index = rw (← c.self.view_is, length-leaves c.self.inside.indexes c.self.inside.nodes.items h.long) at c.requires in
    omega (arith, index, h.long, c.self.inside.nodes.ok.0)

pub lay-requires : goal.lay-requires
lay-requires g c =
    let h = c.self.invariant in
    let index = rw (← c.self.view_is, length-leaves c.self.inside.indexes c.self.inside.nodes.items h.long) at c.requires in
    omega
    (arith, index, h.long, c.self.inside.nodes.ok.0, c.remove.ensures.len, c.remove-2.ensures.len, c.as_mut_slice.ensures.len)

pub invariant_of-self : goal.invariant_of-self
invariant_of-self g c =
    let n = c.self.inside.indexes in
    let now = c.remove-2.new.self in
    let h = c.self.invariant in
    let within = rw (← c.self.view_is, length-leaves n c.self.inside.nodes.items h.long) at c.requires in
    let long : length now.items ≡ 2 * (n - 1) = omega
    (arith, within, h.long, c.self.inside.nodes.ok.0, c.remove.ensures.len, c.remove-2.ensures.len, now.ok.0) in
    subst (IsTournament (n - 1)) (sym (items_of_slice now c.lay.new.nodes (n - 1) long c.lay.ensures.won)) c.lay.ensures.won

pub returns : goal.returns
returns g c =
    let n = c.self.inside.indexes in
    let xs = c.self.inside.nodes.items in
    let now = c.remove-2.new.self in
    let h = c.self.invariant in
    let within = rw (← c.self.view_is, length-leaves n xs h.long) at c.requires in
    let long : length now.items ≡ 2 * (n - 1) = omega
    (arith, within, h.long, c.self.inside.nodes.ok.0, c.remove.ensures.len, c.remove-2.ensures.len, now.ok.0) in
    let kept = items_of_slice now c.lay.new.nodes (n - 1) long c.lay.ensures.won in
    let left : c.as_mut_slice.result.now ≡ remove (remove xs (n + c.args.index)) 0
    = c.as_mut_slice.ensures.value ∙ c.remove-2.ensures.items ∙ ap (λ (ys : List (Option ℕ)). remove ys 0) c.remove.ensures.items in
    rw (← c.self.view_is) (ap (drop (n - 1)) kept ∙ c.lay.ensures.moments ∙ ap (drop (n - 1)) left
    ∙ leaves-removed xs n c.args.index (omega (arith, within)) h.long within)
