use Rattle.std.proofs.Common.{rules, ◌≡◌, ℕ, ◌<◌, ◌≤◌, ◌+◌, ◌++◌, [], ◌∷◌, List, Bool, true, false, length, refl, sym, ap, subst, ◌∙◌, arith}
use Rattle.std.specs.List.{AllByRecursion}
use Rattle.ocf_types.specs.Kinds.{Event}
use Rattle.ocf_types.specs.Limits.{num_max}
use Rattle.ocf_model.specs.Indexes.{id_at}
use Rattle.child_model.specs.Children.{is_held}
use Rattle.store_model.specs.Batches.{encoded_batch}
use Rattle.exec_state.specs.StateValue.{dues}
use Rattle.exec_ledger.specs.Actives.{Active}
use Rattle.exec_turn.specs.Launches.{IsStart, actions_of_starts}
use Rattle.exec_turn.specs.Picks.{begins}
use Rattle.exec_turn.proofs.PickSteps.{SoFar, above, begun_here, each_push, full_here, held_here, no_memory_here, nothing_here, one_longer, batch_more, encoded_more, spent_here, starting_more}
use Rattle.exec_turn.proofs.Resting.{rests_picked}
use Rattle.exec_turn.proofs.picks.pick_all.Goals as goal

-- whether the resource of an id is held, as the children say
held_as : (held : List (List ℕ)) (id own : List ℕ) (b : Bool) → b ≡ is_held held id → id ≡ own → is_held held own ≡ b
held_as held id own b value same = ap (is_held held) (sym same) ∙ sym value

pub returns-then-rests-clause-picked : goal.returns-then-rests-clause-picked
returns-then-rests-clause-picked g c =
    let none : c.clear-2.new.self.items ≡ [] = search rules in
    rests_picked (g.C.Children.view c.args.children.now).held c.args.state.now (g.T.Store.view c.args.store.now).tail c.args.at c.clear-2.new.self.items c.lemma_known.ensures.lawful
    (c.if-rests.ensures refl) none

pub loop-index-preserved-then-holds : goal.loop-index-preserved-then-holds
loop-index-preserved-then-holds g c =
    let s = c.args.state.now.state in
    let inv = c.loop-index.invariant in
    let within : c.loop-index.index < length s.resources = omega (arith, c.loop-index-test.true, c.len-index-end.ensures.value) in
    let is = held_as (g.C.Children.view c.args.children.now).held c.id_at.result.now (id_at s c.loop-index.index) true
    c.if-holds.ensures.value c.id_at.ensures in
    record {
      so_far = held_here inv.so_far within is;
      batch = inv.batch;
      are_starts = inv.are_starts;
      len = inv.len;
      short = omega (arith, inv.short);
      few = omega (arith, inv.few);
      batch_room = inv.batch_room;
      start_room = inv.start_room;
    }

pub loop-index-preserved-in_default : goal.loop-index-preserved-in_default
loop-index-preserved-in_default g c =
    let s = c.args.state.now.state in
    let inv = c.loop-index.invariant in
    let within : c.loop-index.index < length s.resources = omega (arith, c.loop-index-test.true, c.len-index-end.ensures.value) in
    let free = held_as (g.C.Children.view c.args.children.now).held c.id_at.result.now (id_at s c.loop-index.index) false
    c.if-holds.ensures.value c.id_at.ensures in
    record {
      so_far = nothing_here inv.so_far within free c.in_default.ensures;
      batch = inv.batch;
      are_starts = inv.are_starts;
      len = inv.len;
      short = omega (arith, inv.short);
      few = omega (arith, inv.few);
      batch_room = inv.batch_room;
      start_room = inv.start_room;
    }

pub returns-in_default-new-clause-picked : goal.returns-in_default-new-clause-picked
returns-in_default-new-clause-picked g c =
    let s = c.args.state.now.state in
    let inv = c.loop-index.invariant in
    let within : c.loop-index.index < length s.resources = omega (arith, c.loop-index-test.true, c.len-index-end.ensures.value) in
    let free = held_as (g.C.Children.view c.args.children.now).held c.id_at.result.now (id_at s c.loop-index.index) false
    c.if-holds.ensures.value c.id_at.ensures in
    let spent : num_max < c.get.result + 1 = above (c.get.result + 1) num_max
    (λ le. let no : false ≡ true = c.in_default-new.ensures.lawful.1 (omega arith, le) in cc) in
    spent_here inv.so_far within free c.in-Some.ensures (omega (arith, spent, c.get.ensures.value))

pub returns-then-not-fits-clause-picked : goal.returns-then-not-fits-clause-picked
returns-then-not-fits-clause-picked g c =
    let s = c.args.state.now.state in
    let inv = c.loop-index.invariant in
    let within : c.loop-index.index < length s.resources = omega (arith, c.loop-index-test.true, c.len-index-end.ensures.value) in
    let free = held_as (g.C.Children.view c.args.children.now).held c.id_at.result.now (id_at s c.loop-index.index) false
    c.if-holds.ensures.value c.id_at.ensures in
    let drawn : c.loop-index.run + 1 ≤ num_max = omega (arith, (c.in-Some-new.ensures.lawful.0 refl).1, c.get.ensures.value) in
    let size = encoded_more c.args.at c.loop-index.len c.encoded_len-len.result (actions_of_starts c.loop-index.starts.items)
    (record { id = id_at s c.loop-index.index; running = c.in-Some.running }) c.loop-index.batch.items c.begin_at-begin.result inv.batch
    c.begin_at-begin.ensures.begin inv.len c.encoded_len-len.ensures in
    let all = (g.T.Store.view c.args.store.now).tail + 5 + (c.loop-index.len + c.encoded_len-len.result) + 1 + 32768 in
    let over : 8388608 < all = above all 8388608 (λ le. let no : false ≡ true = c.if-not-fits.ensures.value.1 le in cc) in
    full_here inv.so_far within free c.in-Some.ensures drawn size over

pub returns-in_default-start_of-clause-picked : goal.returns-in_default-start_of-clause-picked
returns-in_default-start_of-clause-picked g c =
    let s = c.args.state.now.state in
    let inv = c.loop-index.invariant in
    let within : c.loop-index.index < length s.resources = omega (arith, c.loop-index-test.true, c.len-index-end.ensures.value) in
    let free = held_as (g.C.Children.view c.args.children.now).held c.id_at.result.now (id_at s c.loop-index.index) false
    c.if-holds.ensures.value c.id_at.ensures in
    let drawn : c.loop-index.run + 1 ≤ num_max = omega (arith, (c.in-Some-new.ensures.lawful.0 refl).1, c.get.ensures.value) in
    let size = encoded_more c.args.at c.loop-index.len c.encoded_len-len.result (actions_of_starts c.loop-index.starts.items)
    (record { id = id_at s c.loop-index.index; running = c.in-Some.running }) c.loop-index.batch.items c.begin_at-begin.result inv.batch
    c.begin_at-begin.ensures.begin inv.len c.encoded_len-len.ensures in
    no_memory_here inv.so_far within free c.in-Some.ensures drawn size (c.if-not-fits.ensures.value.0 refl)

pub loop-index-preserved : goal.loop-index-preserved
loop-index-preserved g c =
    let s = c.args.state.now.state in
    let inv = c.loop-index.invariant in
    let within : c.loop-index.index < length s.resources = omega (arith, c.loop-index-test.true, c.len-index-end.ensures.value) in
    let free = held_as (g.C.Children.view c.args.children.now).held c.id_at.result.now (id_at s c.loop-index.index) false
    c.if-holds.ensures.value c.id_at.ensures in
    let drawn : c.loop-index.run + 1 ≤ num_max = omega (arith, (c.in-Some-new.ensures.lawful.0 refl).1, c.get.ensures.value) in
    let size = encoded_more c.args.at c.loop-index.len c.encoded_len-len.result (actions_of_starts c.loop-index.starts.items)
    (record { id = id_at s c.loop-index.index; running = c.in-Some.running }) c.loop-index.batch.items c.begin_at-begin.result inv.batch
    c.begin_at-begin.ensures.begin inv.len c.encoded_len-len.ensures in
    let items = c.loop-index.starts.items in
    let starts = c.push_reserved-in-loop-index.new.self.items in
    let a : Active = record { id = id_at s c.loop-index.index; running = c.in-Some.running } in
    let more = begun_here inv.so_far within free c.in-Some.ensures drawn size {later = c.in-Some-new.next} (c.if-not-fits.ensures.value.0 refl)
    (omega (arith, c.in-Some-new.ensures.value, c.get.ensures.value)) in
    let grown : starts ≡ items ++ c.in-Ok.start ∷ [] = c.push_reserved-in-loop-index.ensures.items in
    let all : actions_of_starts starts ≡ actions_of_starts items ++ a ∷ [] = starting_more items starts c.in-Ok.start a grown c.in-Ok.ensures.what in
    let batch_is : c.push_reserved.new.self.items ≡ begins c.args.at (actions_of_starts items ++ a ∷ [])
    =
    batch_more c.args.at (actions_of_starts items) a c.loop-index.batch.items c.push_reserved.new.self.items c.begin_at-begin.result
    c.push_reserved.ensures.items inv.batch c.begin_at-begin.ensures.begin in
    let count : length starts ≡ length items + 1 = one_longer items starts c.in-Ok.start grown in record {
      so_far = subst (λ (l : List Active). SoFar (g.C.Children.view c.args.children.now).held s (dues c.args.state.now) (g.T.Store.view c.args.store.now).tail c.args.at (c.loop-index.index + 1)
          c.in-Some-new.next l) (sym all) more;
      batch = batch_is ∙ ap (begins c.args.at) (sym all);
      are_starts =
          subst (AllByRecursion (IsStart c.args.site.now s)) (sym grown)
          (each_push (IsStart c.args.site.now s) items c.in-Ok.start inv.are_starts c.in-Ok.ensures.start);
      len = sym size ∙ ap (λ (l : List Event). length (encoded_batch l)) (sym batch_is);
      short = omega (arith, inv.short, c.begin_at-begin.ensures.short, c.encoded_len-len.ensures);
      few = omega (arith, inv.few, count);
      batch_room = c.push_reserved.ensures.capacity ∙ inv.batch_room;
      start_room = c.push_reserved-in-loop-index.ensures.capacity ∙ inv.start_room;
    }
