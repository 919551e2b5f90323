use Rattle.std.proofs.Common.{◌≡◌, [], List, ap, map, subst, sym, take, ◌∙◌}
use Rattle.std.proofs.lemmas.List.{append-nil, take-map}
use Rattle.agent_system.specs.SystemView.{SystemView}
use Rattle.agents_file.specs.declared.contents.Kept.{Kept}
use Rattle.agents_file.specs.declared.entry.AgentEntry.{AgentEntry}
use Rattle.child_keeper.specs.Openings.{AreFound}
use Rattle.agents_file.specs.declared.slots.TheConstants.{SLOTS}
use Rattle.child_keeper.proofs.OpeningLemmas.{among, found_from, none_found}
use Rattle.process_ends.specs.Endings.{processes}
use Rattle.child_keeper.proofs.opening.find_orphans.Goals as goal

pub returns-in_default-clause-found : goal.returns-in_default-clause-found
returns-in_default-clause-found g c =
    let v = g.R.AgentSystem.view c.args.rt.now in
    let m = g.R.AgentSystem.view c.opened.new.rt in (
      [],
      ap (λ (x : SystemView). x.found) c.in_default.ensures ∙ sym (append-nil v.found),
      none_found v m c.args.upkeep.leave _ _ (ap processes c.in_ok-new.ensures.none) c.new-3.ensures.items,
    )

pub find_all-requires-clause-found : goal.find_all-requires-clause-found
find_all-requires-clause-found g c =
    rw (c.as_slice.ensures.value, c.truncate.ensures.items, c.in-Some.ensures)
    (among (g.R.AgentSystem.view c.args.rt.now).found SLOTS c.in-Some.entries.items)

pub returns-clause-found : goal.returns-clause-found
returns-clause-found g c =
    let v = g.R.AgentSystem.view c.args.rt.now in
    let m = g.R.AgentSystem.view c.opened.new.rt in
    let w = g.R.AgentSystem.view c.find_all.new.rt in
    let kepts = c.in-Some.entries.items in
    let entries = map (λ (k : Kept). k.entry) kepts in
    let first : map (λ (k : Kept). k.entry) c.as_slice.result.now ≡ take SLOTS entries =
    ap (map (λ (k : Kept). k.entry)) (c.as_slice.ensures.value ∙ c.truncate.ensures.items)
    ∙ sym (take-map (λ (k : Kept). k.entry) SLOTS kepts) in
    let waits = processes c.find_all.new.self.waits.waits.items in
    let left = c.find_all.new.self.left.items in
    let leave = c.args.upkeep.leave in (
      entries,
      c.find_all.ensures.adopts.found ∙ ap (λ (x : SystemView). x.found) c.in-Some.ensures,
      found_from v m w entries leave (take SLOTS entries) waits left c.in-Some.ensures
          (subst (λ (es : List AgentEntry). AreFound m w leave es waits left) first c.in_ok-find_all.ensures.found),
    )
