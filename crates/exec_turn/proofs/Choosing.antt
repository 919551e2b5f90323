-- The picks of resources: there are always some, and those of two lists of resources are those of both together.
use Rattle.std.proofs.Common.{◌≡◌, ◌⊎◌, inl, inr, ℕ, zero, suc, ◌+◌, ◌<◌, ◌≤◌, Bool, true, false, List, [], ◌∷◌, ◌++◌, length, take, drop, slice_get, slice_index_or, Option, Some, None, All, Contains, option_map, refl, sym, ap, subst, ◌∙◌, arith}
use Rattle.std.specs.List.{AllByRecursion, IsDistinct}
use Rattle.std.specs.Map.{keys_of, lookup}
use Rattle.std.specs.Str.{bytes_eq}
use Rattle.std.proofs.lemmas.Bool.{cases_lt}
use Rattle.std.proofs.lemmas.List.{append-nil, append_assoc, length-append, take-append-drop, take_more}
use Rattle.std.proofs.lemmas.List.Elements.{All-from_recursion}
use Rattle.std.proofs.lemmas.Map.Keys.{IsDistinct-head, IsDistinct-tail}
use Rattle.ocf_model.specs.Due.{Due, IsBefore, IsLeastDue, IsPick, IsPickOf, due_pairs}
use Rattle.ocf_model.specs.Resource.{History, Resource, begun_from, run_of_monitor, run_of_op}
use Rattle.ocf_model.specs.State.{Registry, State, resource_at}
use Rattle.ocf_model.specs.LawfulState.{IsLawfulState}
use Rattle.ocf_model.specs.StateLemmas.{IsBefore-trans}
use Rattle.ocf_types.specs.Lemmas.{other_way}
use Rattle.ocf_model.specs.RegistryLemmas.{same_id}
use Rattle.ocf_model.specs.Indexes.{at_index, id_at, no_entry}
use Rattle.ocf_types.specs.declared.operation.Op.{Op}
use Rattle.ocf_types.specs.declared.operation.Recur.{Recur}
use Rattle.ocf_types.specs.declared.operation.Running.{Running}
use Rattle.exec_state.specs.StateValue.{Chooses, run_of_pick}
use Rattle.child_model.specs.Children.{is_held}
use Rattle.exec_ledger.specs.Actives.{Active, active_of}
use Rattle.exec_ledger.specs.LedgerView.{While}
use Rattle.exec_turn.specs.Picks.{ArePicks, IsNext, begun_in}

-- each entry is found by its id, where these are distinct
pub own_found : (rs : Registry) → IsDistinct bytes_eq (keys_of rs) → AllByRecursion (λ e. lookup (bytes_eq e.0) rs ≡ Some e.1) rs
own_found [] h = tt
own_found (e ∷ es) h = (
  rw (same_id e.0) refl,
  following es (IsDistinct-head bytes_eq e.0 (keys_of es) h)
      (own_found es (IsDistinct-tail bytes_eq e.0 (keys_of es) h)),
)
  where
    following : (xs : Registry) → AllByRecursion (λ k. bytes_eq e.0 k ≡ false) (keys_of xs)
        → AllByRecursion (λ x. lookup (bytes_eq x.0) es ≡ Some x.1) xs
        → AllByRecursion (λ x. lookup (bytes_eq x.0) (e ∷ es) ≡ Some x.1) xs
    following [] a g = tt
    following (x ∷ xs) a g = (rw (other_way e.0 x.0 a.0) g.0, following xs a.1 g.1)

-- the resource at an index is that of its id
pub found_at : (s : State) (index : ℕ) → IsLawfulState s → index < length s.resources
    → resource_at s (id_at s index) ≡ Some (at_index s index)
found_at s index h lt =
    All-from_recursion (λ e. lookup (bytes_eq e.0) s.resources ≡ Some e.1) s.resources (own_found s.resources h.ids) index no_entry lt

pub found_by : (s : State) (index : ℕ) (id own : List ℕ) → IsLawfulState s → index < length s.resources → id ≡ own → own ≡ id_at s index
    → resource_at s id ≡ Some (at_index s index)
found_by s index id own h lt is own_is = ap (resource_at s) (is ∙ own_is) ∙ found_at s index h lt

module _ {A : Type 0} where
  pub all_cons : (P : A → Type 0) (x : A) (xs : List A) → P x → All P xs → All P (x ∷ xs)
  all_cons P x xs h hs zero d lt = h
  all_cons P x xs h hs (suc k) d lt = hs k d (omega (arith, lt))

  pub contains_after : (x y : A) (xs : List A) → Contains xs y → Contains (x ∷ xs) y
  contains_after x y xs h = (suc h.0, omega (arith, h.1), h.2)

  pub contains_first : (x : A) (xs : List A) → Contains (x ∷ xs) x
  contains_first x xs = (0, omega arith, refl)

-- of two pairs one is before the other
before_or : (x y : ℕ × ℕ) → IsBefore x y ⊎ IsBefore y x
before_or x y = by (cases_lt x.0 y.0) (cases_lt y.0 x.0) (cases_lt x.1 y.1)
  where
    by : (x.0 < y.0) ⊎ (y.0 ≤ x.0) → (y.0 < x.0) ⊎ (x.0 ≤ y.0) → (x.1 < y.1) ⊎ (y.1 ≤ x.1) → IsBefore x y ⊎ IsBefore y x
    by (inl a) b c = inl (inl a)
    by (inr a) (inl b) c = inr (inl b)
    by (inr a) (inr b) (inl c) = inl (inr (omega (arith, a, b), omega (arith, c)))
    by (inr a) (inr b) (inr c) = inr (inr (omega (arith, a, b), omega (arith, c)))

before_same : (x : ℕ × ℕ) → IsBefore x x
before_same x = inr (refl, omega arith)

-- there is a least pair that is due, or none is due
least_due : (ps : List (ℕ × ℕ)) (now : ℕ) → (pick : Option ℕ) × IsLeastDue ps now pick
least_due [] now = (None, λ k d lt. absurd (omega (arith, lt)))
least_due (p ∷ ps) now = by (cases_lt now p.0) (least_due ps now)
  where
    Later : ℕ × ℕ → Type 0
    Later q = now < q.0

    by : (now < p.0) ⊎ (p.0 ≤ now) → (pick : Option ℕ) × IsLeastDue ps now pick → (pick : Option ℕ) × IsLeastDue (p ∷ ps) now pick
    by (inl late) (None, h) = (None, all_cons Later p ps late h)
    by (inl late) (Some call, (due, in_it, is_due, least)) = (
      Some call,
      (
        due,
        contains_after p (due, call) ps in_it,
        is_due,
        all_cons (λ q. q.0 ≤ now → IsBefore (due, call) q) p ps (λ le. absurd (omega (arith, late, le))) least,
      ),
    )
    by (inr now_due) (None, h) = (
      Some p.1,
      (
        p.0,
        contains_first p ps,
        now_due,
        all_cons (λ q. q.0 ≤ now → IsBefore p q) p ps (λ le. before_same p) (λ k d lt le. absurd (omega (arith, h k d lt, le))),
      ),
    )
    by (inr now_due) (Some call, (due, in_it, is_due, least)) = choose (before_or p (due, call))
      where
        choose : IsBefore p (due, call) ⊎ IsBefore (due, call) p → (pick : Option ℕ) × IsLeastDue (p ∷ ps) now pick
        choose (inl b) = (
          Some p.1,
          (
            p.0,
            contains_first p ps,
            now_due,
            all_cons (λ q. q.0 ≤ now → IsBefore p q) p ps (λ le. before_same p)
                (λ k d lt le. IsBefore-trans p (due, call) (slice_index_or ps k d) b (least k d lt le)),
          ),
        )
        choose (inr b) = (
          Some call,
          (
            due,
            contains_after p (due, call) ps in_it,
            is_due,
            all_cons (λ q. q.0 ≤ now → IsBefore (due, call) q) p ps (λ le. b) least,
          ),
        )

-- a resource always picks: a call or none
some_pick : (r : Resource) (due : ℕ → Option ℕ) (now : ℕ) → (pick : Option ℕ) × IsPick r due now pick
some_pick r due now = by r.history.running r.history.queue
  where
    by : (x : Option Running) (queue : List Op) → (pick : Option ℕ) × IsPickOf x queue (due_pairs r.recurring due) now pick
    by (Some x) queue = (None, refl)
    by None (o ∷ os) = (Some o.call, refl)
    by None [] = least_due (due_pairs r.recurring due) now

-- and begins it, or nothing while it is held
some_next : (held : List (List ℕ)) (due : Due) (at : ℕ) (e : List ℕ × Resource) → (call : Option ℕ) × IsNext held due at e call
some_next held due at e = by (is_held held e.0)
  where
    by : (b : Bool) → (call : Option ℕ) × While b (call ≡ None) (IsPick e.1 (due e.0) at call)
    by true = (None, refl)
    by false = some_pick e.1 (due e.0) at

-- and so do resources
pub some_picks : (held : List (List ℕ)) (due : Due) (at run : ℕ) (rs : Registry) → (bs : List Active) × ArePicks held due at run rs bs
some_picks held due at run [] = ([], refl)
some_picks held due at run (e ∷ es) =
    let p = some_next held due at e in
    let rest = some_picks held due at (run + length (begun_in at run e p.0)) es in
    (begun_in at run e p.0 ++ rest.0, (p.0, rest.0, p.1, rest.1, refl))

-- the picks of two lists of resources, one after the other
pub picks_append : (held : List (List ℕ)) (due : Due) (at run : ℕ) (xs ys : Registry) (first bs : List Active)
    → ArePicks held due at run xs first → ArePicks held due at (run + length first) ys bs
    → ArePicks held due at run (xs ++ ys) (first ++ bs)
picks_append held due at run [] ys first bs h k =
    let here : run + length first ≡ run = omega (arith, ap (λ (l : List Active). length l) h) in
    rw h (subst (λ n. ArePicks held due at n ys bs) here k)
picks_append held due at run (x ∷ xs) ys first bs (call, rest, pick, more, is) k =
    let own = begun_in at run x call in
    let size : length first ≡ length own + length rest = ap (λ (l : List Active). length l) is ∙ length-append own rest in
    let from : run + length first ≡ run + length own + length rest = omega (arith, size) in
    let following = picks_append held due at (run + length own) xs ys rest bs more (subst (λ n. ArePicks held due at n ys bs) from k) in
    (call, rest ++ bs, pick, following, ap (λ (l : List Active). l ++ bs) is ∙ append_assoc own rest bs)

-- the action that a resource begins runs in it
begun_is : (at run : ℕ) (e : List ℕ × Resource) (call : Option ℕ) (chosen : Option Running) → chosen ≡ run_of_pick at run e.1 call
    → begun_in at run e call ≡ active_of e.0 chosen
begun_is at run e None chosen is = ap (λ (x : Option Running). active_of e.0 x) (sym is)
begun_is at run e (Some call) chosen is = ap (λ (x : Option Running). active_of e.0 x) (sym is)

-- the action that a resource begins at a moment, as it will run under this run, or `None`: none while it is held
abbrev pub Begins : List (List ℕ) → Due → ℕ → ℕ → List ℕ × Resource → Option Running → Type 0
Begins held due at run e chosen = (call : Option ℕ) × IsNext held due at e call × (chosen ≡ run_of_pick at run e.1 call)

-- a resource that is held begins nothing, and another what it chooses
pub begins_held : (held : List (List ℕ)) (due : Due) (at run : ℕ) (e : List ℕ × Resource) → is_held held e.0 ≡ true
    → Begins held due at run e None
begins_held held due at run e is = (None, rw is refl, refl)

pub begins_free : (held : List (List ℕ)) (due : Due) (at run : ℕ) (e : List ℕ × Resource) (chosen : Option Running)
    → is_held held e.0 ≡ false → Chooses due at run e chosen
    → Begins held due at run e chosen
begins_free held due at run e chosen free (call, pick, is) = (call, rw free pick, is)

-- what one resource begins
one_pick : (held : List (List ℕ)) (due : Due) (at run : ℕ) (e : List ℕ × Resource) (chosen : Option Running)
    → Begins held due at run e chosen
    → ArePicks held due at run (e ∷ []) (active_of e.0 chosen)
one_pick held due at run e chosen (call, next, is) = (call, [], next, refl, sym (begun_is at run e call chosen is) ∙ sym (append-nil _))

-- what the resources before an index begin, and the one at the index
pub picks_more : (held : List (List ℕ)) (due : Due) (at run next : ℕ) (rs : Registry) (index : ℕ) (bs : List Active)
    (chosen : Option Running) → index < length rs
    → ArePicks held due at run (take index rs) bs → next ≡ run + length bs → Begins held due at next (slice_index_or rs index no_entry) chosen
    → ArePicks held due at run (take (index + 1) rs) (bs ++ active_of (slice_index_or rs index no_entry).0 chosen)
picks_more held due at run next rs index bs chosen lt before is now =
    let e = slice_index_or rs index no_entry in
    let one = subst (λ n. ArePicks held due at n (e ∷ []) (active_of e.0 chosen)) is (one_pick held due at next e chosen now) in
    rw (take_more rs index no_entry lt) (picks_append held due at run (take index rs) (e ∷ []) bs (active_of e.0 chosen) before one)

-- what the resources before an index begin, and all others after it
pub picks_cut : (held : List (List ℕ)) (due : Due) (at run next : ℕ) (rs : Registry) (index : ℕ) (bs : List Active) (x : Running)
    → index < length rs
    → ArePicks held due at run (take index rs) bs → next ≡ run + length bs
    → Begins held due at next (slice_index_or rs index no_entry) (Some x)
    → (later : List Active) × ArePicks held due at run rs (bs ++ record { id = (slice_index_or rs index no_entry).0; running = x } ∷ later)
picks_cut held due at run next rs index bs x lt before is now =
    let e = slice_index_or rs index no_entry in
    let a : Active = record { id = e.0; running = x } in
    let prefix = picks_more held due at run next rs index bs (Some x) lt before is now in
    let later = some_picks held due at (run + length (bs ++ a ∷ [])) (drop (index + 1) rs) in
    let all = picks_append held due at run (take (index + 1) rs) (drop (index + 1) rs) (bs ++ a ∷ []) later.0 prefix later.1 in
    let whole : take (index + 1) rs ++ drop (index + 1) rs ≡ rs = take-append-drop (index + 1) rs in (
      later.0,
      subst (λ (l : List Active). ArePicks held due at run rs l) (append_assoc bs (a ∷ []) later.0)
          (subst (λ (l : Registry). ArePicks held due at run l ((bs ++ a ∷ []) ++ later.0)) whole all),
    )

-- the first queued action runs
pub runs_op : (queue : List Op) (monitor : Option Recur) (run at : ℕ) (h : History) (o : Op) → slice_get queue 0 ≡ Some o
    → (begun_from queue monitor run at h).running ≡ Some (run_of_op run at o)
runs_op [] monitor run at h o is = absurd (let no : None ≡ Some o = is in cc)
runs_op (q ∷ qs) monitor run at h o is = ap (λ (x : Option Op). option_map (run_of_op run at) x) is

-- with an empty queue the monitor does
pub runs_monitor : (queue : List Op) (monitor : Option Recur) (run at : ℕ) (h : History) → length queue ≡ 0
    → (begun_from queue monitor run at h).running ≡ option_map (run_of_monitor run at) monitor
runs_monitor [] monitor run at h none = refl
runs_monitor (q ∷ qs) monitor run at h none = absurd (omega (arith, none))
