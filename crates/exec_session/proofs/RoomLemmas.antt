-- Tidies that a session makes by itself.
use Rattle.std.proofs.Common.{◌≡◌, ℕ, ◌-◌, ◌≤◌, ◌<◌, Bool, true, false, List, Some, refl, sym, ap, subst, ◌∙◌, arith, ⊎_elim, true≢false}
use Rattle.std.specs.Prelude.{nat_le}
use Rattle.std.specs.List.{list_any}
use Rattle.std.proofs.lemmas.Bool.Decides.{leb_tells}
use Rattle.std.proofs.lemmas.List.Elements.{All-weaker}
use Rattle.std.proofs.lemmas.List.Folds.{list_any_at, list_any_none}
use Rattle.ocf_model.specs.declared.reply.TidyEnd.{TidyEnd}
use Rattle.recurring.specs.Monitors.{IsFirstMoment}
use Rattle.store_model.specs.StoreView.{StoreView}
use Rattle.executor.specs.ExecutorView.{ExecutorView}
use Rattle.executor.specs.TidyCalls.{TidiesWhile}
use Rattle.session_machine.specs.Room.{MakesRoom, is_tidy_due}
use Rattle.session_machine.specs.declared.rules.Rules.{Rules}

le_false : (a b : ℕ) → b < a → nat_le a b ≡ false
le_false a b lt = ⊎_elim (λ yes. absurd (omega (arith, lt, yes.1))) (λ no. no.0) (leb_tells a b)

-- the first one is due within the time exactly when one is
pub first_within : (pairs : List (ℕ × ℕ)) (now lasts due : ℕ) → IsFirstMoment pairs (Some due)
    → nat_le (due - now) lasts ≡ list_any (λ p. nat_le (p.0 - now) lasts) pairs
first_within pairs now lasts due (call, (k, lt, at), least) = ⊎_elim soon late (leb_tells (due - now) lasts)
  where
    test : ℕ × ℕ → Bool
    test p = nat_le (p.0 - now) lasts

    soon : (nat_le (due - now) lasts ≡ true) × (due - now ≤ lasts) → nat_le (due - now) lasts ≡ list_any test pairs
    soon (is, le) = is ∙ sym (list_any_at test pairs k (due, call) lt (ap test at ∙ is))

    late : (nat_le (due - now) lasts ≡ false) × (lasts < due - now) → nat_le (due - now) lasts ≡ list_any test pairs
    late (is, gt) =
        is ∙ sym (list_any_none test pairs
        (All-weaker (λ p. due ≤ p.0) (λ p. test p ≡ false) (λ p le. le_false (p.0 - now) lasts (omega (arith, le, gt))) pairs least))

-- a tidy is made where one is due, and nothing is done where none is
module _ {S : Type 0} (view : S → StoreView) (rules : Rules) (now pace : ℕ) (x : ExecutorView S) where
  pub room_made : (y : ExecutorView S) (end : TidyEnd) (known : Rules) → 1 ≤ pace → x.is_open ≡ true → known ≡ rules
      → true ≡ is_tidy_due view known x now pace → TidiesWhile x.is_open view x y end → MakesRoom view rules now x y
  room_made y end known some_time is_open same due tidies = record {
    pace = pace;
    some_time = some_time;
    made = λ _. (end, subst (λ (b : Bool). TidiesWhile b view x y end) is_open tidies);
    none = λ undue. absurd (true≢false (due ∙ ap (λ (r : Rules). is_tidy_due view r x now pace) same ∙ undue));
  }

  pub room_is_there : (known : Rules) → 1 ≤ pace → known ≡ rules → false ≡ is_tidy_due view known x now pace → MakesRoom view rules now x x
  room_is_there known some_time same undue = record {
    pace = pace;
    some_time = some_time;
    made = λ due. absurd (true≢false (sym due ∙ ap (λ (r : Rules). is_tidy_due view r x now pace) (sym same) ∙ sym undue));
    none = λ _. refl;
  }
