-- Lemmas on moments at which no resource begins an action.
use Rattle.std.proofs.Common.{◌≡◌, ℕ, suc, ◌<◌, ◌+◌, ◌++◌, min, length, take, slice_get, Bool, true, false, cond, List, [], ◌∷◌, Option, Some, None, MatchOption, is_some}
use Rattle.std.proofs.Common.{unwrap_or, refl, ap, arith}
use Rattle.std.specs.Prelude.{⊤}
use Rattle.std.specs.Option.{option_map}
use Rattle.std.specs.List.{AllByRecursion}
use Rattle.std.specs.Map.{lookup, values_of}
use Rattle.std.specs.Str.{bytes_eq}
use Rattle.std.proofs.lemmas.Map.Made.{lookup-map_values}
use Rattle.ocf_types.specs.declared.operation.Op.{Op}
use Rattle.ocf_types.specs.declared.operation.Running.{Running}
use Rattle.ocf_model.specs.Resource.{Resource}
use Rattle.ocf_model.specs.State.{Registry}
use Rattle.ocf_model.specs.Due.{IsPickOf}
use Rattle.recurring.specs.Monitors.{pairs, IsFirstMoment}
use Rattle.exec_state.specs.declared.registered.Registered.{Registered}
use Rattle.exec_state.specs.Seen.{seen, seen_all, monitors_of, monitors_all}
use Rattle.exec_state.specs.StateValue.{StateValue, Monitors, monitors_at}
use Rattle.exec_state.specs.Resting.{AllRest, RestBefore, Rests}
use Rattle.exec_state.specs.Lawful.{IsLawfulValue}
use Rattle.exec_state.proofs.Choices.{take_more_some}
use Rattle.exec_state.proofs.Picks.{choice}

-- there is no moment before 0
pub rest_before_0 : (rs : Registry) (all : Monitors) → RestBefore rs all 0
rest_before_0 rs all now lt = absurd (omega (arith, lt))

-- nothing begins while an action runs
pub rests_running : (x : Option Running) (queue : List Op) (ps : List (ℕ × ℕ)) (now : ℕ) → is_some x ≡ true → IsPickOf x queue ps now None
rests_running (Some x) queue ps now h = refl
rests_running None queue ps now h = absurd (cc)

-- with nothing queued, nothing begins before the first due moment
pub rests_first : (x : Option Running) (queue : List Op) (ps : List (ℕ × ℕ)) (first : Option ℕ) (most now : ℕ) → length queue ≡ 0
    → IsFirstMoment ps first → now < unwrap_or first most → IsPickOf x queue ps now None
rests_first (Some x) queue ps first most now none h lt = refl
rests_first None (o ∷ os) ps first most now none h lt = absurd (omega (arith, none))
rests_first None [] ps None most now none h lt = rw h (λ k d le. absurd (omega (arith, le)))
rests_first None [] ps (Some due) most now none h lt = λ k d within. omega (arith, lt, h.2 k d within)

-- a resource begins nothing at a moment
abbrev pub RestsAt : {H : Type 0} → ℕ → Registered H → Type 0
RestsAt now r = IsPickOf (seen r).history.running (seen r).history.queue (pairs r.monitors) now None

-- the same with one more resource
each_push : {A : Type 0} (P : A → Type 0) (xs : List A) (x : A) → AllByRecursion P xs → P x → AllByRecursion P (xs ++ x ∷ [])
each_push P [] x h p = (p, tt)
each_push P (y ∷ ys) x h p = (h.0, each_push P ys x h.1 p)

pub rest_more : {H : Type 0} (xs : List (Registered H)) (i until own is now : ℕ) (r : Registered H) → slice_get xs i ≡ Some r
    → ((at : ℕ) → at < until → AllByRecursion (RestsAt at) (take i xs)) → ((at : ℕ) → at < own → RestsAt at r)
    → is ≡ min until own → now < is → AllByRecursion (RestsAt now) (take (i + 1) xs)
rest_more xs i until own is now r at so_far one same lt =
    rw (take_more_some xs i r at) (each_push (RestsAt now) (take i xs) r (so_far now (omega (arith, same, lt))) (one now (omega (arith, same, lt))))

-- there are as many values as entries
pub length-values : {H : Type 0} (es : List (List ℕ × Registered H)) → length (values_of es) ≡ length es
length-values [] = refl
length-values (e ∷ es) = ap suc (length-values es)

-- if no value begins anything, no resource does
pub rest_seen : {H : Type 0} (es : List (List ℕ × Registered H)) (now : ℕ) → AllByRecursion (RestsAt now) (values_of es)
    → AllRest (seen_all es) (monitors_all es) now
rest_seen {H = H} es now h id =
    rw (lookup-map_values seen (bytes_eq id) es, lookup-map_values monitors_of (bytes_eq id) es) (by es h)
  where
    by : (xs : List (List ℕ × Registered H)) → AllByRecursion (RestsAt now) (values_of xs)
        → MatchOption (option_map seen (lookup (bytes_eq id) xs)) ⊤
        (λ r. IsPickOf r.history.running r.history.queue (pairs (unwrap_or (option_map monitors_of (lookup (bytes_eq id) xs)) [])) now None)
    by [] g = tt
    by (x ∷ xs) g = which (bytes_eq id x.0) (by xs g.1)
      where
        which : (b : Bool)
            → MatchOption (option_map seen (lookup (bytes_eq id) xs)) ⊤
            (λ r. IsPickOf r.history.running r.history.queue (pairs (unwrap_or (option_map monitors_of (lookup (bytes_eq id) xs)) [])) now None)
            → MatchOption (option_map seen (cond b (Some x.1) (lookup (bytes_eq id) xs))) ⊤
            (λ r. IsPickOf r.history.running r.history.queue
            (pairs (unwrap_or (option_map monitors_of (cond b (Some x.1) (lookup (bytes_eq id) xs))) [])) now None)
        which true k = g.0
        which false k = k

-- if no resource begins anything, the state is idle
pub rests_all : (s : StateValue) (now : ℕ) → IsLawfulValue s → AllRest s.state.resources s.monitors now → Rests s now
rests_all s now h rest id = choice s id now None h (by (lookup (bytes_eq id) s.state.resources) (rest id))
  where
    nothing : Option ℕ
    nothing = None

    by : (o : Option Resource)
        → MatchOption o ⊤ (λ r. IsPickOf r.history.running r.history.queue (pairs (monitors_at s.monitors id)) now None)
        → MatchOption o (nothing ≡ None) (λ r. IsPickOf r.history.running r.history.queue (pairs (monitors_at s.monitors id)) now None)
    by None k = refl
    by (Some r) k = k
