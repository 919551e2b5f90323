-- Openings report as interrupted what boots interrupt.
use Rattle.std.proofs.Common.{◌≡◌, inl, inr, ℕ, Bool, true, false, List, [], ◌∷◌, ◌++◌, map, Option, Some, None, flat_map, option_to_list, refl, sym, ap, ap₂, subst}
use Rattle.std.specs.Prelude.{if◌then◌else◌}
use Rattle.std.specs.List.{list_any}
use Rattle.std.proofs.lemmas.List.{append-nil}
use Rattle.ocf_model.specs.Answer.{moment}
use Rattle.ocf_model.specs.Boot.{any_busy, boot_at}
use Rattle.ocf_types.specs.Kinds.{Event}
use Rattle.ocf_model.specs.Resource.{is_busy}
use Rattle.ocf_model.specs.State.{Registry, State, after_all}
use Rattle.ocf_types.specs.declared.operation.Running.{Running}
use Rattle.ocf_types.specs.declared.notice.Notice.{Notice}
use Rattle.executor_laws.specs.Histories.{IsWithin, interruptions}
use Rattle.executor_laws.specs.Incarnations.{boots}
use Rattle.executor.specs.Interruptions.{interrupted, interrupted_in, interruption}
use Rattle.executor_laws.specs.Behaves.{Opening, Behaves, Seen, Serving}
use Rattle.executor_laws.specs.SeenIncarnations.{reports}
use Rattle.executor_laws.proofs.History.Runs.{both_false, rests}
use Rattle.executor_laws.proofs.History.TurnAnswers.{interruptions-append}

-- lists with some elements left out, one after the other
within_all : (xs : List Notice) → IsWithin xs xs
within_all [] = tt
within_all (x ∷ xs) = inl (refl, within_all xs)

within_after : (ys xs zs : List Notice) → IsWithin xs zs → IsWithin xs (ys ++ zs)
within_after [] xs zs h = h
within_after (y ∷ ys) [] zs h = tt
within_after (y ∷ ys) (x ∷ xs) zs h = inr (within_after ys (x ∷ xs) zs h)

within_both : (ms bs cs ds : List Notice) → IsWithin ms bs → IsWithin cs ds → IsWithin (ms ++ cs) (bs ++ ds)
within_both [] bs cs ds h k = within_after bs cs ds k
within_both (a ∷ ms) [] cs ds h k = absurd h
within_both (a ∷ ms) (b ∷ bs) cs ds (inl h) k = inl (h.0, within_both ms bs cs ds h.1 k)
within_both (a ∷ ms) (b ∷ bs) cs ds (inr h) k = inr (within_both (a ∷ ms) bs cs ds h k)

within_more : (ms bs cs : List Notice) → IsWithin ms bs → IsWithin ms (bs ++ cs)
within_more ms bs cs h = subst (λ (l : List Notice). IsWithin l (bs ++ cs)) (append-nil ms) (within_both ms bs [] cs h tt)

-- where nothing is queued or running nothing is interrupted
none_interrupted : (at : ℕ) (rs : Registry) → list_any (λ e. is_busy e.1.history) rs ≡ false → flat_map (interrupted_in at) rs ≡ []
none_interrupted at [] idle = refl
none_interrupted at (e ∷ es) idle =
    let halves = both_false (is_busy e.1.history) (list_any (λ x. is_busy x.1.history) es) idle in
    ap₂ (λ (a b : List Notice). a ++ b)
    (ap (λ (o : Option Running). map (interruption e.0 at) (option_to_list o)) (rests e.1.history halves.0)) (none_interrupted at es halves.1)

boots_report : (s : State) (now : ℕ) → IsWithin (interrupted s (moment s now)) (interruptions s (boots s now))
boots_report s now = by (any_busy s) refl
  where
    by : (b : Bool) → any_busy s ≡ b
        → IsWithin (interrupted s (moment s now)) (interruptions s (option_to_list (if b then Some (boot_at (moment s now)) else None)))
    by true busy = within_more (interrupted s (moment s now)) (interrupted s (moment s now)) [] (within_all (interrupted s (moment s now)))
    by false idle =
        subst (λ (l : List Notice). IsWithin l []) (sym (none_interrupted (moment s now) s.resources idle)) tt

pub reports_reported : (start : State) (xs : List Seen) (zs : List Event) → Behaves start xs zs → IsWithin (reports xs) (interruptions start zs)
reports_reported start [] zs none = tt
reports_reported start (Opening now end ∷ older) zs (ys, more, before, remains, is) =
    subst (λ (l : List Event). IsWithin (reports older) (interruptions start l)) (sym is)
    (subst (IsWithin (reports older)) (sym (interruptions-append start ys more))
    (within_more (reports older) (interruptions start ys) (interruptions (after_all start ys) more) (reports_reported start older ys before)))
reports_reported start (Serving x ∷ older) zs (ys, more, before, (p, r, more_is), is) =
    let s = after_all start ys in
    let here : IsWithin x.ran (interruptions s more) =
    subst (λ (l : List Event). IsWithin x.ran (interruptions s l)) (sym more_is)
    (subst (IsWithin x.ran) (sym (interruptions-append s (boots s x.now) p))
    (within_more x.ran (interruptions s (boots s x.now)) (interruptions (after_all s (boots s x.now)) p)
    (subst (λ (l : List Notice). IsWithin l (interruptions s (boots s x.now))) (sym r.ran) (boots_report s x.now)))) in
    subst (λ (l : List Event). IsWithin (reports older ++ x.ran) (interruptions start l)) (sym is)
    (subst (IsWithin (reports older ++ x.ran)) (sym (interruptions-append start ys more))
    (within_both (reports older) (interruptions start ys) x.ran (interruptions s more) (reports_reported start older ys before) here))
