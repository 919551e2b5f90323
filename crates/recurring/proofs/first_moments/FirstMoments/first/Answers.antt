use Rattle.std.proofs.Common.{◌<◌, ◌≡◌, None, get_or, arith}
use Rattle.std.proofs.lemmas.List.{get_or_read}
use Rattle.recurring.proofs.Tournament.{first_node, no_first}
use Rattle.recurring.proofs.first_moments.FirstMoments.first.Goals as goal

pub returns-then-self-eq0 : goal.returns-then-self-eq0
returns-then-self-eq0 g c =
    rw (← c.self.view_is) (no_first c.self.inside.indexes c.self.inside.nodes.items c.self.invariant (omega arith))

pub index-requires : goal.index-requires
index-requires g c = omega (arith, c.self.invariant.long, c.self.inside.nodes.ok.0)

pub returns : goal.returns
returns g c =
    let xs = c.self.inside.nodes.items in
    let n = c.self.inside.indexes in
    let some : 0 < n = omega arith in
    let here : c.index.result.now ≡ get_or xs 1 None
    = get_or_read xs 1 c.index.result.now (omega (arith, some, c.self.invariant.long)) c.index.ensures None in
    rw (← c.self.view_is, here) (first_node n xs c.self.invariant some)
