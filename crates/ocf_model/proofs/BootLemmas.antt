-- A boot is needed at most once, and the action that ran is its last result.
use Rattle.std.proofs.Common.{◌≡◌, ℕ, ◌-◌, ◌≤◌, Bool, true, false, cond, List, [], ◌∷◌, ◌++◌, map, drop, length, Option, Some, IsSomeAnd}
use Rattle.std.proofs.Common.{option_map, option_to_list, refl, sym, ap, subst, ◌∙◌, arith, length-append}
use Rattle.std.specs.Str.{bytes_eq}
use Rattle.std.proofs.lemmas.List.{drop-append-le}
use Rattle.std.proofs.lemmas.Map.Made.{lookup-map_values}
use Rattle.ocf_types.specs.declared.operation.Running.{Running}
use Rattle.ocf_types.specs.declared.operation.Ended.{Ended}
use Rattle.ocf_types.specs.declared.outcome.Outcome.TheVariants.{Interrupted}
use Rattle.ocf_model.specs.Resource.{History, Resource, kept, ended_of, dropped_of, last_ended, booted}
use Rattle.ocf_model.specs.State.{State, resource_at, after, on_history}
use Rattle.ocf_model.specs.Boot.{any_busy, boot, boot_at, IsLast}
use Rattle.ocf_model.specs.StateLemmas.{quiet}

-- a second boot changes nothing
pub boot_once : (s : State) (m n : ℕ) → boot (boot s m) n ≡ boot s m
boot_once s m n = by (any_busy s) refl
  where
    by : (b : Bool) → any_busy s ≡ b → boot (cond b (after s (boot_at m)) s) n ≡ cond b (after s (boot_at m)) s
    by true e = rw (quiet m s.resources) refl
    by false e = rw e refl

-- after a boot the action that ran is the last result of a history
interrupted_last : (at : ℕ) (h : History) (x : Running) → h.running ≡ Some x → IsLast (ended_of Interrupted at x) (booted at h).ended
interrupted_last at h x is =
    let prefix : List Ended = h.ended ++ map (dropped_of at) h.queue in
    let e : Ended = ended_of Interrupted at x in
    let cut : ℕ = length (prefix ++ e ∷ []) - kept in
    let within : cut ≤ length prefix = omega (arith, length-append prefix (e ∷ [])) in
    subst (λ (o : Option Running). IsLast e (last_ended (prefix ++ map (ended_of Interrupted at) (option_to_list o)))) (sym is)
    (drop cut prefix, drop-append-le cut prefix (e ∷ []) within)

-- the same of its resource
pub boot_interrupts : (s : State) (at : ℕ) (id : List ℕ) (r : Resource) (x : Running) → resource_at s id ≡ Some r
    → r.history.running ≡ Some x
    → IsSomeAnd (resource_at (after s (boot_at at)) id) (λ q. IsLast (ended_of Interrupted at x) q.history.ended)
boot_interrupts s at id r x there runs =
    let now : resource_at (after s (boot_at at)) id ≡ Some (on_history (booted at) r)
    = lookup-map_values (on_history (booted at)) (bytes_eq id) s.resources ∙ ap (option_map (on_history (booted at))) there in
    subst (λ (o : Option Resource). IsSomeAnd o (λ q. IsLast (ended_of Interrupted at x) q.history.ended)) (sym now)
    (interrupted_last at r.history x runs)
