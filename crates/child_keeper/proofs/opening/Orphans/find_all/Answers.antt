use Rattle.std.proofs.Common.{◌≡◌, ◌+◌, ◌++◌, [], ◌∷◌, List, Contains, ap, arith, map, subst, sym, take, ◌∙◌}
use Rattle.std.proofs.lemmas.List.{map_more}
use Rattle.agents_file.specs.declared.contents.Kept.{Kept}
use Rattle.agents_file.specs.declared.entry.AgentEntry.{AgentEntry}
use Rattle.child_keeper.specs.Openings.{AreFound}
use Rattle.child_keeper.proofs.OpeningLemmas.{adopts_more, found_more}
use Rattle.process_ends.specs.Endings.{processes}
use Rattle.child_keeper.proofs.opening.Orphans.find_all.Goals as goal

pub find-requires-clause-found : goal.find-requires-clause-found
find-requires-clause-found g c =
    rw c.loop-kept.invariant.adopts.found
    (subst (λ (k : Kept). Contains (g.R.AgentSystem.view c.args.rt.now).found k.entry) (sym c.kept-item.is)
    (c.requires.found c.loop-kept.kept-index c.kept-item.result c.loop-kept-test.true))

pub loop-kept-preserved : goal.loop-kept-preserved
loop-kept-preserved g c =
    let v = g.R.AgentSystem.view c.args.rt.now in
    let m = g.R.AgentSystem.view c.loop-kept.rt in
    let w = g.R.AgentSystem.view c.find.new.rt in
    let entries = c.args.entries.now in
    let at = c.loop-kept.kept-index in
    let e = c.kept-item.result.entry in
    let so_far = map (λ (k : Kept). k.entry) (take at entries) in
    let was = processes c.loop-kept.self.waits.waits.items in
    let now = processes c.find.new.self.waits.waits.items in
    let more : map (λ (k : Kept). k.entry) (take (at + 1) entries) ≡ so_far ++ e ∷ [] =
    map_more (λ (k : Kept). k.entry) entries at c.kept-item.result c.loop-kept-test.true
    ∙ ap (λ (k : Kept). so_far ++ k.entry ∷ []) (sym c.kept-item.is) in
    record {
      given_up = c.find.ensures.given_up;
      adopts = adopts_more v m w c.loop-kept.invariant.adopts c.find.ensures.adopts;
      found = subst (λ (es : List AgentEntry). AreFound v w c.args.upkeep.leave es now c.find.new.self.left.items) (sym more)
          (found_more v m w c.args.upkeep.leave so_far e was now c.loop-kept.self.left.items c.find.new.self.left.items
          c.loop-kept.invariant.adopts.looked c.find.ensures.adopts.looked c.loop-kept.invariant.found c.in_ok-find.ensures.found);
      len = omega (arith, c.find.ensures.len, c.loop-kept.invariant.len);
    }
