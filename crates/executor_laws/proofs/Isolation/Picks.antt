-- The action that a resource begins, and that of one id among all that begin.
use Rattle.std.proofs.Common.{◌≡◌, ℕ, ◌+◌, ◌≤◌, ◌==◌, Bool, true, false, cond, filter, is_some, length, List, [], ◌∷◌, ◌++◌, Option, Some, None, option_map, refl, sym, ap, subst, ◌∙◌, le_refl, arith}
use Rattle.std.specs.List.{AllByRecursion, IsDistinct, cons_option}
use Rattle.std.specs.Map.{keys_of, lookup}
use Rattle.std.specs.Str.{bytes_eq}
use Rattle.std.proofs.lemmas.Bool.{eq-eqb}
use Rattle.std.proofs.lemmas.List.{append-nil}
use Rattle.std.proofs.lemmas.List.Elements.{All-contains, All-from_recursion, filter-append}
use Rattle.std.proofs.lemmas.Map.Keys.{IsDistinct-head, IsDistinct-tail}
use Rattle.std.proofs.lemmas.Slice.Eq.{bytes_eq-Decides}
use Rattle.ocf_model.specs.RegistryLemmas.{call_of}
use Rattle.ocf_model.specs.Due.{Due, IsLeastDue, IsPick, IsPickOf, due_pairs}
use Rattle.ocf_types.specs.Kinds.{Event}
use Rattle.ocf_model.specs.Resource.{Resource, begun_from, of_call, run_of_monitor, run_of_op}
use Rattle.ocf_model.specs.State.{Registry, State, after}
use Rattle.ocf_types.specs.declared.operation.Op.{Op}
use Rattle.ocf_types.specs.declared.operation.Recur.{Recur}
use Rattle.ocf_types.specs.declared.operation.Running.{Running}
use Rattle.ocf_types.specs.Lemmas.{each_weaken}
use Rattle.child_model.specs.Children.{is_held}
use Rattle.exec_ledger.specs.Actives.{Active, active_of}
use Rattle.exec_ledger.specs.LedgerView.{While}
use Rattle.exec_ledger.specs.Lemmas.{of_closed}
use Rattle.exec_turn.specs.Picks.{ArePicks, IsNext, begin_of, begins, begun_in}
use Rattle.executor_laws.proofs.Isolation.Changes.{AreFresh}
use Rattle.executor_laws.proofs.Isolation.Lists.{filter_alike}

-- each monitor is found by its call
found_more : (m : Recur) (ms : List Recur) (call : ℕ) → is_some (of_call call ms) ≡ true → is_some (of_call call (m ∷ ms)) ≡ true
found_more m ms call h = by (m.call == call)
  where
    by : (b : Bool) → is_some (cond b (Some m) (of_call call ms)) ≡ true
    by true = refl
    by false = h

calls_known : (ms : List Recur) → AllByRecursion (λ m. is_some (of_call m.call ms) ≡ true) ms
calls_known [] = tt
calls_known (m ∷ ms) = (
  rw (eq-eqb m.call m.call refl) refl,
  each_weaken (λ x. is_some (of_call x.call ms) ≡ true) (λ x. is_some (of_call x.call (m ∷ ms)) ≡ true)
      (λ x h. found_more m ms x.call h) ms (calls_known ms),
)

-- a due pair has the call of a monitor
pairs_known : (P : ℕ → Type 0) (ms : List Recur) (due : ℕ → Option ℕ) → AllByRecursion (λ m. P m.call) ms
    → AllByRecursion (λ p. P p.1) (due_pairs ms due)
pairs_known P [] due h = tt
pairs_known P (m ∷ ms) due h = by (due m.call) (pairs_known P ms due h.1)
  where
    by : (o : Option ℕ) → AllByRecursion (λ p. P p.1) (due_pairs ms due)
        → AllByRecursion (λ p. P p.1) (cons_option (option_map (λ at. (at, m.call)) o) (due_pairs ms due))
    by None rest = rest
    by (Some at) rest = (h.0, rest)

-- due moments that agree for the monitors make the same pairs
pairs_same : (ms : List Recur) (due other : ℕ → Option ℕ) → AllByRecursion (λ m. due m.call ≡ other m.call) ms
    → due_pairs ms due ≡ due_pairs ms other
pairs_same [] due other h = refl
pairs_same (m ∷ ms) due other h = rw (h.0, pairs_same ms due other h.1) refl

-- so a pick is the same
pub pick_same : (r : Resource) (due other : ℕ → Option ℕ) (at : ℕ) (pick : Option ℕ)
    → ((call : ℕ) → is_some (of_call call r.recurring) ≡ true → other call ≡ due call)
    → IsPick r due at pick → IsPick r other at pick
pick_same r due other at pick agree h =
    let same : due_pairs r.recurring due ≡ due_pairs r.recurring other = pairs_same r.recurring due other
    (each_weaken (λ m. is_some (of_call m.call r.recurring) ≡ true) (λ m. due m.call ≡ other m.call)
    (λ m found. sym (agree m.call found)) r.recurring (calls_known r.recurring)) in
    subst (λ (l : List (ℕ × ℕ)). IsPickOf r.history.running r.history.queue l at pick) same h

-- with nothing queued the pick is a monitor's call
pub picks_ready : (r : Resource) (due : ℕ → Option ℕ) (at call : ℕ) → IsLeastDue (due_pairs r.recurring due) at (Some call)
    → is_some (of_call call r.recurring) ≡ true
picks_ready r due at call p =
    All-contains (λ q. is_some (of_call q.1 r.recurring) ≡ true) (due_pairs r.recurring due) (p.0, call)
    (All-from_recursion (λ q. is_some (of_call q.1 r.recurring) ≡ true) (due_pairs r.recurring due)
    (pairs_known (λ c. is_some (of_call c r.recurring) ≡ true) r.recurring due (calls_known r.recurring))) p.1

-- a resource begins only what it picks, and it begins what it picks where it is not held
pub next_pick : (held : List (List ℕ)) (due : Due) (at : ℕ) (e : List ℕ × Resource) (call : ℕ) → IsNext held due at e (Some call)
    → IsPick e.1 (due e.0) at (Some call)
next_pick held due at e call next = by (is_held held e.0) next
  where
    by : (b : Bool) → While b (Some call ≡ None) (IsPick e.1 (due e.0) at (Some call)) → IsPick e.1 (due e.0) at (Some call)
    by true next = absurd (let no : Some call ≡ None = next in cc)
    by false next = next

free_pick : (held : List (List ℕ)) (due : Due) (at : ℕ) (e : List ℕ × Resource) (call : Option ℕ) → is_held held e.0 ≡ false
    → IsNext held due at e call → IsPick e.1 (due e.0) at call
free_pick held due at e call free next = of_closed (call ≡ None) (IsPick e.1 (due e.0) at call) free next

-- a resource that picks a call begins it, under its run
pub begun_one : (due : ℕ → Option ℕ) (at run : ℕ) (e : List ℕ × Resource) (call : ℕ) → IsPick e.1 due at (Some call)
    → (x : Running) × (begun_in at run e (Some call) ≡ record { id = e.0; running = x } ∷ []) × (x.call ≡ call) × (x.run ≡ run)
begun_one due at run e call pick = by e.1.history.running e.1.history.queue (of_call call e.1.recurring) refl pick
  where
    by : (o : Option Running) (q : List Op) (m : Option Recur) → of_call call e.1.recurring ≡ m
        → IsPickOf o q (due_pairs e.1.recurring due) at (Some call)
        → (x : Running) × (active_of e.0 (begun_from q m run at e.1.history).running ≡ record { id = e.0; running = x } ∷ [])
        × (x.call ≡ call) × (x.run ≡ run)
    by (Some x) q m is p = absurd (let no : Some call ≡ None = p in cc)
    by None (o ∷ os) m is p = (run_of_op run at o, refl, let same : Some call ≡ Some o.call = p in cc, refl)
    by None [] (Some m) is p = (run_of_monitor run at m, refl, call_of call e.1.recurring m is, refl)
    by None [] None is p =
        let found : is_some (of_call call e.1.recurring) ≡ true = All-contains (λ q. is_some (of_call q.1 e.1.recurring) ≡ true)
        (due_pairs e.1.recurring due) (p.0, call)
        (All-from_recursion (λ q. is_some (of_call q.1 e.1.recurring) ≡ true) (due_pairs e.1.recurring due)
        (pairs_known (λ c. is_some (of_call c e.1.recurring) ≡ true) e.1.recurring due (calls_known e.1.recurring))) p.1 in
        let none : is_some {T = Recur} None ≡ true = subst (λ (o : Option Recur). is_some o ≡ true) is found in
        absurd (cc)

-- an action begun is of the entry's id
begun_ids : (at run : ℕ) (e : List ℕ × Resource) (call : Option ℕ) (id : List ℕ)
    → AllByRecursion (λ a. bytes_eq id a.id ≡ bytes_eq id e.0) (begun_in at run e call)
begun_ids at run e None id = tt
begun_ids at run e (Some call) id = by (begun_from e.1.history.queue (of_call call e.1.recurring) run at e.1.history).running
  where
    by : (o : Option Running) → AllByRecursion (λ (a : Active). bytes_eq id a.id ≡ bytes_eq id e.0) (active_of e.0 o)
    by None = tt
    by (Some x) = (refl, tt)

abbrev pub own_of : List ℕ → List Active → List Active
own_of id all = filter (λ a. bytes_eq id a.id) all

-- actions begun by entries none of which has the id are of others
picks_absent : (held : List (List ℕ)) (moments : Due) (at run : ℕ) (rs : Registry) (begun : List Active) (id : List ℕ)
    → ArePicks held moments at run rs begun
    → AllByRecursion (λ k. bytes_eq id k ≡ false) (keys_of rs)
    → own_of id begun ≡ []
picks_absent held moments at run [] begun id h absent = ap (own_of id) h
picks_absent held moments at run (e ∷ es) begun id (call, rest, pick, later, is) absent =
    let first = begun_in at run e call in
    let none : own_of id first ≡ [] = filter_alike (λ a. bytes_eq id a.id) false first
    (subst (λ b. AllByRecursion (λ (a : Active). bytes_eq id a.id ≡ b) first) absent.0 (begun_ids at run e call id)) in
    ap (own_of id) is ∙ filter-append (λ a. bytes_eq id a.id) first rest ∙ ap (λ (l : List Active). l ++ own_of id rest) none
    ∙ picks_absent held moments at (run + length first) es rest id later absent.1

-- the action that a resource begins under a run not below this one, if the resource is there
abbrev pub IsChosen : Due → ℕ → ℕ → List ℕ → Option Resource → List Active → Type 0
IsChosen moments at run id None mine = mine ≡ []
IsChosen moments at run id (Some r) mine =
    (call : Option ℕ) × (n : ℕ) × (run ≤ n) × IsPick r (moments id) at call × (mine ≡ begun_in at n (id, r) call)

chosen_from : (moments : Due) (at run n : ℕ) (id : List ℕ) (o : Option Resource) (mine : List Active) → run ≤ n
    → IsChosen moments at n id o mine → IsChosen moments at run id o mine
chosen_from moments at run n id None mine le h = h
chosen_from moments at run n id (Some r) mine le h = (h.0, h.1, omega (arith, h.2), h.3, h.4)

-- where ids differ, the action begun of an id that is not held is the one that its resource picks
pub chosen : (held : List (List ℕ)) (moments : Due) (at run : ℕ) (rs : Registry) (begun : List Active) (id : List ℕ)
    → is_held held id ≡ false → IsDistinct bytes_eq (keys_of rs) → ArePicks held moments at run rs begun
    → IsChosen moments at run id (lookup (bytes_eq id) rs) (own_of id begun)
chosen held moments at run [] begun id free distinct h = ap (own_of id) h
chosen held moments at run (e ∷ es) begun id free distinct (call, rest, pick, later, is) =
    subst (λ (l : List Active). IsChosen moments at run id (cond (bytes_eq id e.0) (Some e.1) (lookup (bytes_eq id) es)) l)
    (sym (ap (own_of id) is ∙ filter-append (λ a. bytes_eq id a.id) first rest))
    (by (bytes_eq id e.0) refl
    (chosen held moments at (run + length first) es rest id free (IsDistinct-tail bytes_eq e.0 (keys_of es) distinct) later))
  where
    first : List Active
    first = begun_in at run e call

    by : (b : Bool) → bytes_eq id e.0 ≡ b → IsChosen moments at (run + length first) id (lookup (bytes_eq id) es) (own_of id rest)
        → IsChosen moments at run id (cond b (Some e.1) (lookup (bytes_eq id) es)) (own_of id first ++ own_of id rest)
    by true same go =
        let k : id ≡ e.0 = (bytes_eq-Decides id e.0).0 same in
        let picked = free_pick held moments at e call (subst (λ (j : List ℕ). is_held held j ≡ false) k free) pick in
        let mine : own_of id first ≡ first = filter_alike (λ a. bytes_eq id a.id) true first
        (subst (λ b. AllByRecursion (λ (a : Active). bytes_eq id a.id ≡ b) first) same (begun_ids at run e call id)) in
        let none : own_of id rest ≡ [] = picks_absent held moments at (run + length first) es rest id later
        (subst (λ (j : List ℕ). AllByRecursion (λ y. bytes_eq j y ≡ false) (keys_of es)) (sym k)
        (IsDistinct-head bytes_eq e.0 (keys_of es) distinct)) in (
          call,
          run,
          le_refl run,
          subst (λ (j : List ℕ). IsPick e.1 (moments j) at call) (sym k) picked,
          rw (mine, none) (append-nil first ∙ ap (λ (j : List ℕ). begun_in at run (j, e.1) call) (sym k)),
        )
    by false other go =
        let none : own_of id first ≡ [] = filter_alike (λ a. bytes_eq id a.id) false first
        (subst (λ b. AllByRecursion (λ (a : Active). bytes_eq id a.id ≡ b) first) other (begun_ids at run e call id)) in
        rw none (chosen_from moments at run (run + length first) id (lookup (bytes_eq id) es) (own_of id rest) (omega arith) go)

-- the begins of picks draw one run number after another
pub begins_fresh : (held : List (List ℕ)) (moments : Due) (at run : ℕ) (rs : Registry) (begun : List Active)
    → ArePicks held moments at run rs begun
    → (s : State) (more : List Event) → s.next_run ≡ run
    → ((t : State) → AreFresh t more) → AreFresh s (begins at begun ++ more)
begins_fresh held moments at run [] begun h s more is fresh = subst (λ (l : List Active). AreFresh s (begins at l ++ more)) (sym h) (fresh s)
begins_fresh held moments at run (e ∷ es) begun (None, rest, pick, later, is) s more same fresh =
    subst (λ (l : List Active). AreFresh s (begins at l ++ more)) (sym is)
    (begins_fresh held moments at (run + 0) es rest later s more (omega (arith, same)) fresh)
begins_fresh held moments at run (e ∷ es) begun (Some call, rest, is_next, later, is) s more same fresh =
    let pick = next_pick held moments at e call is_next in
    let one = begun_one (moments e.0) at run e call pick in
    let a : Active = record { id = e.0; running = one.0 } in
    let all : begun ≡ a ∷ rest = is ∙ ap (λ (l : List Active). l ++ rest) one.1 in
    let next : (after s (begin_of at a)).next_run ≡ run + length (begun_in at run e (Some call)) = omega
    (arith, same, ap (λ (l : List Active). length l) one.1) in
    subst (λ (l : List Active). AreFresh s (begins at l ++ more)) (sym all) (
      one.3 ∙ sym same,
      begins_fresh held moments at (run + length (begun_in at run e (Some call))) es rest later
          (after s (begin_of at a)) more next fresh,
    )
