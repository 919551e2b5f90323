use Rattle.std.proofs.Common.{◌≡◌, ◌+◌, ◌*◌, length, set, drop, ap, sym, subst, ◌∙◌, arith}
use Rattle.std.specs.Vec.{with_item}
use Rattle.std.proofs.lemmas.List.{length-set, drop-set-add}
use Rattle.recurring.specs.FirstMoments.{IsTournament}
use Rattle.recurring.proofs.Tournament.{length-leaves, won-changed, items_of_slice}
use Rattle.recurring.proofs.first_moments.FirstMoments.set.Goals as goal

pub overflow_add-node : goal.overflow_add-node
overflow_add-node g c =
    let h = c.self.invariant in
    let index = rw (← c.self.view_is, length-leaves c.self.inside.indexes c.self.inside.nodes.items h.long) at c.requires in
    omega (arith, index, h.long, c.self.inside.nodes.ok.0, c.self.inside.nodes.ok.1, c.self.inside.nodes.small)

pub index_mut-requires : goal.index_mut-requires
index_mut-requires g c =
    let h = c.self.invariant in
    let index = rw (← c.self.view_is, length-leaves c.self.inside.indexes c.self.inside.nodes.items h.long) at c.requires in
    omega (arith, index, h.long, c.self.inside.nodes.ok.0)

pub climb-requires : goal.climb-requires
climb-requires g c =
    let xs = c.self.inside.nodes.items in
    let n = c.self.inside.indexes in
    let h = c.self.invariant in
    let index = rw (← c.self.view_is, length-leaves n xs h.long) at c.requires in
    rw c.as_mut_slice.ensures.value (record {
      long = length-set xs (n + c.args.index) c.args.moment ∙ h.long;
      low = omega (arith, index, h.long);
      high = omega (arith, index, h.long);
      won = won-changed xs n (n + c.args.index) c.args.moment (omega arith) h;
    })

pub invariant_of-self : goal.invariant_of-self
invariant_of-self g c =
    let n = c.self.inside.indexes in
    let was = c.self.inside.nodes in
    let long : length (set was.items (n + c.args.index) c.args.moment) ≡ 2 * n
    = length-set was.items (n + c.args.index) c.args.moment ∙ c.self.invariant.long in
    subst (IsTournament n) (sym (items_of_slice (with_item was (n + c.args.index) c.args.moment) c.climb.new.nodes n long c.climb.ensures.won))
    c.climb.ensures.won

pub returns : goal.returns
returns g c =
    let n = c.self.inside.indexes in
    let was = c.self.inside.nodes in
    let long : length (set was.items (n + c.args.index) c.args.moment) ≡ 2 * n
    = length-set was.items (n + c.args.index) c.args.moment ∙ c.self.invariant.long in
    let kept = items_of_slice (with_item was (n + c.args.index) c.args.moment) c.climb.new.nodes n long c.climb.ensures.won in
    rw (← c.self.view_is) (ap (drop n) kept ∙ c.climb.ensures.moments ∙ ap (drop n) c.as_mut_slice.ensures.value
    ∙ drop-set-add n was.items c.args.index c.args.moment)
