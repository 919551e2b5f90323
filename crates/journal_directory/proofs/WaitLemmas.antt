-- The runs of a state.
use Rattle.std.proofs.Common.{◌≡◌, ℕ, ◌+◌, ◌<◌, ◌||◌, Bool, true, false, take, length, List, ap₂, ◌∙◌}
use Rattle.std.proofs.lemmas.List.Folds.{list_any_at, list_any_more}
use Rattle.std.specs.List.{list_any}
use Rattle.ocf_model.specs.Indexes.{entry_at, no_entry}
use Rattle.ocf_model.specs.Resource.{Resource}
use Rattle.ocf_model.specs.State.{State}
use Rattle.journal_directory.specs.Waits.{is_run, is_run_in}

-- a resource runs this run
abbrev pub runs : ℕ → List ℕ × Resource → Bool
runs run e = is_run run e.1

pub one_runs : (run : ℕ) (s : State) (i : ℕ) → i < length s.resources → runs run (entry_at s i) ≡ true → is_run_in s run ≡ true
one_runs run s i lt is = list_any_at (runs run) s.resources i no_entry lt is

-- one more resource does not
pub none_more : (run : ℕ) (s : State) (i : ℕ) → i < length s.resources → list_any (runs run) (take i s.resources) ≡ false
    → runs run (entry_at s i) ≡ false → list_any (runs run) (take (i + 1) s.resources) ≡ false
none_more run s i lt none is = list_any_more (runs run) s.resources i no_entry lt ∙ ap₂ (λ a b. a || b) none is
