use Rattle.std.proofs.Common.{◌≡◌, ◌≤◌, ◌+◌, IsTrue, ◌∙◌, ℕ, suc, arith, length, List, [], ◌∷◌, ◌++◌, sym, ap, append-nil, rules}
use Rattle.std.specs.Vec.Iter.{into_iter_items}
use Rattle.std.proofs.lemmas.List.{nil_from_length, length-append, length-map}
use Rattle.ocf_model.specs.Resource.{Resource}
use Rattle.recurring.specs.declared.monitor.Monitor.{Monitor}
use Rattle.recurring.specs.Monitors.{all_due_at, pairs}
use Rattle.recurring.specs.declared.due_index.TheConstants.{INDEX_LIMIT}
use Rattle.exec_state.specs.Seen.{seen, seen_all, monitors_of, monitors_all, FitsRoom}
use Rattle.exec_state.proofs.Entries.{length-map_entries}
use Rattle.exec_state.proofs.Restored.{absent_next, fact_next, due_by_id, one_more, due_one_more}
use Rattle.exec_state.proofs.registry.Registry.from_parts.Goals as goal

pub from_parts-requires : goal.from_parts-requires
from_parts-requires g c =
    fact_next (λ (e : List ℕ × Resource). FitsRoom e.1) (seen_all c.loop-part.resources.entries)
    (into_iter_items c.loop-part.part-iterator) c.args.parts.items _ c.in-Some.part
    c.loop-part.invariant.0 c.in-Some.ensures.steps.0 c.requires.room

-- the id of the next part is not among those before it
pub insert-requires-clause-absent : goal.insert-requires-clause-absent
insert-requires-clause-absent g c =
    let absent = absent_next (seen_all c.loop-part.resources.entries)
    (into_iter_items c.loop-part.part-iterator) c.args.parts.items _ c.in-Some.part
    c.loop-part.invariant.0 c.in-Some.ensures.steps.0 c.requires.ids in
    rw (c.reserve_entries.ensures.entries, ap (λ e. e.0) c.in_ok-id.ensures.state) absent

pub loop-part-preserved : goal.loop-part-preserved
loop-part-preserved g c =
    let done = seen_all c.loop-part.resources.entries in
    let ms = monitors_all c.loop-part.resources.entries in
    let one : seen_all c.insert.new.resources.entries ≡ done ++ c.in-Some.part ∷ []
    = (rw c.reserve_entries.ensures.entries at c.insert.ensures.resources) ∙ ap (λ e. done ++ e ∷ []) c.in_ok-id.ensures.state in
    let monitors : monitors_all c.insert.new.resources.entries
    ≡ ms ++ (c.in-Some.part.0, all_due_at c.args.due c.in-Some.part.1.recurring) ∷ []
    = rw (← ap (λ e. e.0) c.in_ok-id.ensures.state, ← c.in_ok-id.ensures.monitors)
    (rw c.reserve_entries.ensures.entries at c.insert.ensures.monitors) in
    let before : done ++ c.in-Some.part ∷ into_iter_items c.next.new.self ≡ c.args.parts.items = rw
    (← c.in-Some.ensures.steps.0) c.loop-part.invariant.0 in (
      one_more _ done (into_iter_items c.next.new.self) c.args.parts.items c.in-Some.part one before,
      due_one_more c.args.due _ done _ ms c.in-Some.part one monitors c.loop-part.invariant.1,
      search rules,
      c.insert.ensures.tied,
    )

pub returns-clause-resources : goal.returns-clause-resources
returns-clause-resources g c =
    let done = seen_all c.loop-part.resources.entries in
    let empty : into_iter_items c.loop-part.part-iterator ≡ [] = nil_from_length _
    (sym c.loop-part.invariant.2 ∙ c.in-None.ensures.steps.0) in
    sym (append-nil done) ∙ rw empty at c.loop-part.invariant.0

pub returns-clause-monitors : goal.returns-clause-monitors
returns-clause-monitors g c = c.loop-part.invariant.1 ∙ ap (due_by_id c.args.due) (returns-clause-resources g c)

-- fewer resources have been added than there are parts
pub returns-in_err-reserve-clause-memory : goal.returns-in_err-reserve-clause-memory
returns-in_err-reserve-clause-memory g c =
    let done = seen_all c.loop-part.resources.entries in
    let ms = monitors_all c.loop-part.resources.entries in
    let rest = into_iter_items c.loop-part.part-iterator in
    let some : length rest ≡ suc (length _) = ap length c.in-Some.ensures.steps.0 in
    let few : length c.args.parts.items ≤ INDEX_LIMIT → length c.loop-part.dues.dues + 1 ≤ INDEX_LIMIT = λ le. omega (
      arith,
      le,
      some,
      ap length c.loop-part.invariant.0,
      length-append done rest,
      ap length c.loop-part.invariant.3,
      length-map {B = List ℕ × List (ℕ × ℕ)} ms (λ (e : List ℕ × List Monitor). (e.0, pairs e.1)),
      length-map_entries seen c.loop-part.resources.entries,
      length-map_entries monitors_of c.loop-part.resources.entries,
    ) in
    let refused : length c.args.parts.items ≤ INDEX_LIMIT → IsTrue g.A.Grows.refuses = λ le. c.in_err-reserve.ensures.memory (few le) in
    search rules

pub returns-in_err-reserve_entries-clause-memory : goal.returns-in_err-reserve_entries-clause-memory
returns-in_err-reserve_entries-clause-memory g c =
    let refused : length c.args.parts.items ≤ INDEX_LIMIT → IsTrue g.A.Grows.refuses = λ le. c.in_err-reserve_entries.field-0.0.refused in
    search rules
