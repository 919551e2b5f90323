-- Where nothing has to begin, nothing is picked.
use Rattle.std.proofs.Common.{◌≡◌, ℕ, ◌+◌, Bool, true, false, List, [], ◌∷◌, Some, None, MatchOption, Option, sym, subst, arith, refl}
use Rattle.std.specs.List.{AllByRecursion}
use Rattle.std.specs.Map.{lookup}
use Rattle.std.specs.Str.{bytes_eq}
use Rattle.ocf_model.specs.Due.{Due, IsPick}
use Rattle.ocf_model.specs.LawfulState.{IsLawfulState}
use Rattle.ocf_model.specs.Resource.{Resource}
use Rattle.ocf_model.specs.State.{Registry}
use Rattle.ocf_model.specs.declared.reply.TurnEnd.TheVariants as turn_end
use Rattle.exec_state.specs.Resting.{Rests}
use Rattle.exec_state.specs.StateValue.{StateValue, dues}
use Rattle.child_model.specs.Children.{is_held}
use Rattle.exec_ledger.specs.LedgerView.{While}
use Rattle.exec_turn.specs.Picks.{ArePicks, IsNext, Picked}
use Rattle.ocf_env.specs.Locations.{Call}
use Rattle.exec_turn.specs.Launches.{actions_of_starts}
use Rattle.exec_turn.specs.declared.picks.StartOf.{StartOf}
use Rattle.exec_turn.proofs.Choosing.{own_found}

-- a resource that picks nothing begins nothing, held or not
none_next : (held : List (List ℕ)) (due : Due) (at : ℕ) (e : List ℕ × Resource) → IsPick e.1 (due e.0) at None → IsNext held due at e None
none_next held due at e pick = by (is_held held e.0)
  where
    nothing : Option ℕ
    nothing = None

    by : (b : Bool) → While b (nothing ≡ None) (IsPick e.1 (due e.0) at nothing)
    by true = refl
    by false = pick

-- nothing of these entries, each found by its id
none_of : (held : List (List ℕ)) (s : StateValue) (at run : ℕ) → Rests s at → (xs : Registry)
    → AllByRecursion (λ e. lookup (bytes_eq e.0) s.state.resources ≡ Some e.1) xs
    → ArePicks held (dues s) at run xs []
none_of held s at run rest [] h = refl
none_of held s at run rest (e ∷ es) h =
    let pick : IsPick e.1 (dues s e.0) at None = subst
    (λ (o : Option Resource). MatchOption o (nothing ≡ None) (λ r. IsPick r (dues s e.0) at None)) h.0 (rest e.0) in
    let here : run ≡ run + 0 = omega arith in
    (None, [], none_next held (dues s) at e pick, subst (λ n. ArePicks held (dues s) at n es []) here (none_of held s at run rest es h.1), refl)
  where
    nothing : Option ℕ
    nothing = None

-- nothing of a state
rest_picked : (held : List (List ℕ)) (s : StateValue) (tail at : ℕ) → IsLawfulState s.state → Rests s at
    → Picked held turn_end.Done s.state (dues s) tail at []
rest_picked held s tail at lawful rest = (
  none_of held s at s.state.next_run rest s.state.resources (own_found s.state.resources lawful.ids),
  record { runs = omega (arith, lawful.next_run.1); reserve = λ lt. absurd (omega (arith, lt)) },
)

-- and there are no starts
pub rests_picked : (held : List (List ℕ)) (s : StateValue) (tail at : ℕ) (xs : List (StartOf Call)) → IsLawfulState s.state → Rests s at → xs ≡ []
    → Picked held turn_end.Done s.state (dues s) tail at (actions_of_starts xs)
rests_picked held s tail at xs lawful rest none =
    subst (λ (l : List (StartOf Call)). Picked held turn_end.Done s.state (dues s) tail at (actions_of_starts l)) (sym none)
    (rest_picked held s tail at lawful rest)
