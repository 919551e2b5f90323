-- The events and entries of one resource in the batches of a turn.
use Rattle.std.proofs.Common.{◌≡◌, ℕ, Bool, true, false, cond, List, [], ◌∷◌, map, filter, flat_map, Option, Some, None, option_and_then, option_to_list, Result, refl, sym, ap, subst, ◌∙◌}
use Rattle.std.specs.List.{AllByRecursion, IsDistinct}
use Rattle.std.specs.Map.{keys_of, lookup}
use Rattle.std.specs.Option.{option_map_or}
use Rattle.std.specs.Str.{bytes_eq}
use Rattle.std.proofs.lemmas.List.{append-nil}
use Rattle.std.proofs.lemmas.Map.Keys.{IsDistinct-head, IsDistinct-tail}
use Rattle.std.proofs.lemmas.Slice.Eq.{bytes_eq-Decides}
use Rattle.ocf_types.specs.Kinds.{Event}
use Rattle.ocf_model.specs.Resource.{Resource}
use Rattle.ocf_model.specs.State.{State, after, named, resource_at}
use Rattle.ocf_types.specs.declared.operation.Running.{Running}
use Rattle.ocf_types.specs.declared.outcome.RunEnd.{RunEnd}
use Rattle.child_model.specs.Children.{kill_answer, start_answer}
use Rattle.child_model.specs.declared.answer.KillFault.{KillFault}
use Rattle.child_model.specs.declared.answer.Poll.{Poll}
use Rattle.child_model.specs.declared.answer.Poll.TheVariants as poll
use Rattle.exec_ledger.specs.Actives.{Active, active, active_in, active_of}
use Rattle.exec_turn.specs.Actives.{result_of}
use Rattle.exec_turn.specs.Picks.{begin_of, begins}
use Rattle.exec_turn.specs.Polls.{IsPoll, Polled, ending, ends_of, entries_of, is_late, book_entry, polls, results}
use Rattle.exec_turn.specs.Starts.{Started, refusals, refused_end, starts}
use Rattle.ocf_types.specs.Lemmas.{each_weaken}
use Rattle.executor_laws.specs.Projections.{events_of}
use Rattle.executor_laws.specs.Isolated.{IsolatedPoll}
use Rattle.executor_laws.proofs.Isolation.Changes.{AreFresh, IsFresh}
use Rattle.executor_laws.proofs.Isolation.Lists.{each_flat_map, each_map, each_of_all, each_unmap, filter-flat_map, filter-map, filter_alike, filter_same}

-- an event that names this id
abbrev pub names_it : List ℕ → Event → Bool
names_it id e = option_map_or (bytes_eq id) (named e.change) false

-- runs are this resource's exactly when their actions are
abbrev pub AreOwn : (ℕ → Bool) → List ℕ → List Active → Type 0
AreOwn mine id all = AllByRecursion (λ a. mine a.running.run ≡ bytes_eq id a.id) all

module _ {A : Type 0} where
  -- where ids differ, an id has one entry, if it has any
  lemma_one_entry : (id : List ℕ) (rs : List (List ℕ × A)) → IsDistinct bytes_eq (keys_of rs)
      → filter (λ e. bytes_eq id e.0) rs ≡ map (λ r. (id, r)) (option_to_list (lookup (bytes_eq id) rs))
  lemma_one_entry id [] distinct = refl
  lemma_one_entry id (e ∷ es) distinct = by (bytes_eq id e.0) refl (lemma_one_entry id es (IsDistinct-tail bytes_eq e.0 (keys_of es) distinct))
    where
      rest : List (List ℕ × A)
      rest = filter (λ x. bytes_eq id x.0) es

      by : (b : Bool) → bytes_eq id e.0 ≡ b → rest ≡ map (λ r. (id, r)) (option_to_list (lookup (bytes_eq id) es))
          → cond b (e ∷ rest) rest ≡ map (λ r. (id, r)) (option_to_list (cond b (Some e.1) (lookup (bytes_eq id) es)))
      by true same go =
          let k : id ≡ e.0 = (bytes_eq-Decides id e.0).0 same in
          let none : rest ≡ [] = filter_alike (λ x. bytes_eq id x.0) false es
          (each_unmap (λ y. bytes_eq id y ≡ false) (λ x. x.0) es
          (subst (λ (j : List ℕ). AllByRecursion (λ y. bytes_eq j y ≡ false) (keys_of es)) (sym k)
          (IsDistinct-head bytes_eq e.0 (keys_of es) distinct))) in
          ap (λ (l : List (List ℕ × A)). e ∷ l) none ∙ ap (λ (j : List ℕ). (j, e.1) ∷ []) (sym k)
      by false other go = go

-- the running action of an id, where ids differ
pub own_active : (s : State) (id : List ℕ) → IsDistinct bytes_eq (keys_of s.resources)
    → filter (λ a. bytes_eq id a.id) (active s) ≡ active_of id (option_and_then (λ r. r.history.running) (resource_at s id))
own_active s id distinct =
    filter-flat_map (λ a. bytes_eq id a.id) (λ e. bytes_eq id e.0) active_in s.resources
    (each_of_all (λ e. filter (λ a. bytes_eq id a.id) (active_in e) ≡ cond (bytes_eq id e.0) (active_in e) []) each s.resources)
    ∙ ap (flat_map active_in) (lemma_one_entry id s.resources distinct) ∙ by (resource_at s id)
  where
    each : (e : List ℕ × Resource) → filter (λ a. bytes_eq id a.id) (active_in e) ≡ cond (bytes_eq id e.0) (active_in e) []
    each e = filter_alike (λ a. bytes_eq id a.id) (bytes_eq id e.0) (active_in e)
        (each_map (λ a. bytes_eq id a.id ≡ bytes_eq id e.0) (λ x. record { id = e.0; running = x }) (option_to_list e.1.history.running)
        (each_of_all (λ x. bytes_eq id e.0 ≡ bytes_eq id e.0) (λ x. refl) (option_to_list e.1.history.running)))

    by : (o : Option Resource)
        → flat_map active_in (map (λ r. (id, r)) (option_to_list o)) ≡ active_of id (option_and_then (λ r. r.history.running) o)
    by None = refl
    by (Some r) = append-nil (active_of id r.history.running)

-- each entry of a poll is of its run
poll_runs : (mine : ℕ → Bool) (at : ℕ) (x : Running) (p : Poll) (kill : Result Unit KillFault) (b : Bool) → mine x.run ≡ b
    → AllByRecursion (λ e. mine e.run ≡ b) (entries_of at x p kill)
poll_runs mine at x poll.Running kill b h = (h, by (is_late at x))
  where
    by : (late : Bool) → AllByRecursion (λ e. mine e.run ≡ b) (cond late (book_entry x.run (kill_answer kill) ∷ []) [])
    by true = (h, tt)
    by false = tt
poll_runs mine at x (poll.Exited code) kill b h = (h, tt)
poll_runs mine at x (poll.Signaled signal) kill b h = (h, tt)
poll_runs mine at x poll.Fault kill b h = (h, tt)

-- the polls of an id, and their events and entries
pub polls_kept : (mine : ℕ → Bool) (id : List ℕ) (at : ℕ) (ps : List Polled) → AreOwn mine id (map (λ p. p.who) ps)
    → filter (λ e. mine e.run) (polls at ps) ≡ polls at (filter (λ p. bytes_eq id p.who.id) ps)
polls_kept mine id at ps h =
    filter-flat_map (λ e. mine e.run) (λ p. bytes_eq id p.who.id) (λ p. entries_of at p.who.running p.poll p.kill) ps
    (each_weaken (λ p. mine p.who.running.run ≡ bytes_eq id p.who.id)
    (λ p. filter (λ e. mine e.run) (entries_of at p.who.running p.poll p.kill)
    ≡ cond (bytes_eq id p.who.id) (entries_of at p.who.running p.poll p.kill) [])
    (λ p same. filter_alike (λ e. mine e.run) (bytes_eq id p.who.id) (entries_of at p.who.running p.poll p.kill)
    (poll_runs mine at p.who.running p.poll p.kill (bytes_eq id p.who.id) same))
    ps (each_unmap (λ a. mine a.running.run ≡ bytes_eq id a.id) (λ p. p.who) ps h))

ends_kept : (id : List ℕ) (at : ℕ) (a : Active) (ends : List RunEnd)
    → events_of id (map (result_of at a) ends) ≡ cond (bytes_eq id a.id) (map (result_of at a) ends) []
ends_kept id at a ends = filter_alike (names_it id) (bytes_eq id a.id) (map (result_of at a) ends)
    (each_map (λ e. names_it id e ≡ bytes_eq id a.id) (result_of at a) ends
    (each_of_all (λ (x : RunEnd). bytes_eq id a.id ≡ bytes_eq id a.id) (λ x. refl) ends))

pub results_kept : (id : List ℕ) (at : ℕ) (ps : List Polled)
    → events_of id (results at ps) ≡ results at (filter (λ p. bytes_eq id p.who.id) ps)
results_kept id at ps = filter-flat_map (names_it id) (λ p. bytes_eq id p.who.id) (λ p. map (result_of at p.who) (ends_of at p)) ps
    (each_of_all (λ p. events_of id (map (result_of at p.who) (ends_of at p))
    ≡ cond (bytes_eq id p.who.id) (map (result_of at p.who) (ends_of at p)) []) (λ p. ends_kept id at p.who (ends_of at p)) ps)

-- the begins and the starts of an id, and the refused ones
pub begins_kept : (id : List ℕ) (at : ℕ) (begun : List Active)
    → events_of id (begins at begun) ≡ begins at (filter (λ a. bytes_eq id a.id) begun)
begins_kept id at begun = filter-map (names_it id) (begin_of at) begun

pub starts_kept : (mine : ℕ → Bool) (id : List ℕ) (clock : ℕ) (xs : List Started) → AreOwn mine id (map (λ x. x.what) xs)
    → filter (λ e. mine e.run) (starts clock xs) ≡ starts clock (filter (λ x. bytes_eq id x.what.id) xs)
starts_kept mine id clock xs h =
    filter-map (λ e. mine e.run) (λ x. record { run = x.what.running.run; at = clock; answer = start_answer x.answer }) xs
    ∙ ap (starts clock) (filter_same (λ x. mine x.what.running.run) (λ x. bytes_eq id x.what.id) xs
    (each_unmap (λ a. mine a.running.run ≡ bytes_eq id a.id) (λ x. x.what) xs h))

abbrev refused_batch : ℕ → Started → List Event
refused_batch at x = map (result_of at x.what) (refused_end x.answer)

pub refusals_kept : (id : List ℕ) (at : ℕ) (xs : List Started)
    → events_of id (refusals at xs) ≡ refusals at (filter (λ x. bytes_eq id x.what.id) xs)
refusals_kept id at xs = filter-flat_map (names_it id) (λ x. bytes_eq id x.what.id) (refused_batch at) xs
    (each_of_all (λ x. events_of id (refused_batch at x) ≡ cond (bytes_eq id x.what.id) (refused_batch at x) [])
    (λ x. ends_kept id at x.what (refused_end x.answer)) xs)

-- an event of this moment that is new in each state
pub record IsEnd (at : ℕ) (e : Event) : Type 0 where
  pub now : e.at ≡ at
  pub fresh : (t : State) → IsFresh t e.change

ends_are : (at : ℕ) (a : Active) (ends : List RunEnd) → AllByRecursion (IsEnd at) (map (result_of at a) ends)
ends_are at a ends =
    each_map (IsEnd at) (result_of at a) ends
    (each_of_all (λ end. IsEnd at (result_of at a end)) (λ end. record { now = refl; fresh = λ t. tt }) ends)

pub results_end : (at : ℕ) (ps : List Polled) → AllByRecursion (IsEnd at) (results at ps)
results_end at ps = each_flat_map (IsEnd at) (λ p. map (result_of at p.who) (ends_of at p)) (λ p. ends_are at p.who (ends_of at p)) ps

pub refusals_end : (at : ℕ) (xs : List Started) → AllByRecursion (IsEnd at) (refusals at xs)
refusals_end at xs =
    each_flat_map (IsEnd at) (λ x. map (result_of at x.what) (refused_end x.answer)) (λ x. ends_are at x.what (refused_end x.answer)) xs

pub ends_fresh : (at : ℕ) (es : List Event) → AllByRecursion (IsEnd at) es → (t : State) → AreFresh t es
ends_fresh at [] h t = tt
ends_fresh at (e ∷ es) h t = (h.0.fresh t, ends_fresh at es h.1 (after t e))

-- its own poll, of its running action
pub isolated_poll : (id : List ℕ) (at : ℕ) (o : Option Running) (ps : List Polled) → AllByRecursion (λ p. IsPoll p.poll) ps
    → map (λ p. p.who) ps ≡ active_of id o
    → IsolatedPoll id at o (polls at ps) (results at ps)
isolated_poll id at None [] bytes h = (refl, refl)
isolated_poll id at None (p ∷ ps) bytes h = absurd (let no : p.who ∷ map (λ p. p.who) ps ≡ [] = h in cc)
isolated_poll id at (Some x) [] bytes h = absurd (let no : [] ≡ active_of id (Some x) = h in cc)
isolated_poll id at (Some x) (p ∷ []) bytes h =
    let w : Active = record { id = id; running = x } in
    let is : p.who ≡ w = let one : p.who ∷ [] ≡ w ∷ [] = h in cc in (
      p.poll,
      p.kill,
      bytes.0,
      append-nil (entries_of at p.who.running p.poll p.kill) ∙ ap (λ (a : Active). entries_of at a.running p.poll p.kill) is,
      append-nil (map (result_of at p.who) (ends_of at p))
          ∙ ap (λ (a : Active). map (result_of at a) (option_to_list (ending at a.running p.poll))) is,
    )
isolated_poll id at (Some x) (p ∷ q ∷ ps) bytes h =
    let w : Active = record { id = id; running = x } in
    absurd (let no : p.who ∷ q.who ∷ map (λ p. p.who) ps ≡ w ∷ [] = h in cc)
