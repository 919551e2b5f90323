-- Lemmas: starts after their begins.
use Rattle.std.specs.Prelude.{◌≡◌, ℕ, List, [], ◌∷◌, ◌==◌, map}
use Rattle.std.specs.List.{list_any}
use Rattle.std.proofs.Common.{⊎_elim, refl, sym, ◌∙◌, ap, subst}
use Rattle.std.proofs.lemmas.Bool.{or_left, or_right}
use Rattle.std.proofs.lemmas.List.{append-nil}
use Rattle.ocf_types.specs.Kinds.{Event}
use Rattle.ocf_types.specs.Lemmas.{same_number}
use Rattle.ocf_model.specs.State.{State, after_all}
use Rattle.store_model.specs.Lemmas.{started}
use Rattle.store_model.specs.Crashes.{CrashesTo}
use Rattle.store_model.specs.StoreView.{StoreView}
use Rattle.child_model.specs.Children.{Asked}
use Rattle.child_model.specs.declared.answer.Entry.{Entry}
use Rattle.exec_ledger.specs.Actives.{Active}
use Rattle.exec_turn.specs.Picks.{begins}
use Rattle.exec_ledger.specs.Pieces.{HasBegin, CrashCondition, Prefix, is_begin}
use Rattle.exec_turn.specs.Starts.{Started, starts}
use Rattle.exec_ledger.specs.Lemmas.{asked_in, asked_none, asked_one, settles}

-- each start that was requested has its begin in the batch
pub asked_starts : (at clock : ℕ) (xs : List Started) (run u : ℕ) → Asked (starts clock xs) run u
    → (u ≡ clock) × HasBegin run (begins at (map (λ x. x.what) xs))
asked_starts at clock [] run u asked = absurd (asked_none run u asked)
asked_starts at clock (x ∷ xs) run u asked = ⊎_elim
    (λ here.
    let same = asked_one _ _ here.2 in (
      sym (ap (λ (e : Entry). e.at) same),
      or_left (x.what.running.run == run) (list_any (λ e. is_begin run e.change) (begins at (map (λ x. x.what) xs)))
          (same_number x.what.running.run run (ap (λ (e : Entry). e.run) same)),
    ))
    (λ there.
    let later = asked_starts at clock xs run u there in
    (later.0, or_right (x.what.running.run == run) (list_any (λ e. is_begin run e.change) (begins at (map (λ x. x.what) xs))) later.1))
    (asked_in (starts clock (x ∷ [])) (starts clock xs) run u asked)

-- Starts may follow the batch that recorded their begins: what a crash leaves from then on has all begins.
pub then_started : {S : Type 0} (view : S → StoreView) (old new : S) (s t : State) (at clock : ℕ) (bs : List Active) (xs : List Started)
    → clock ≡ (view new).clock → map (λ x. x.what) xs ≡ bs
    → CrashCondition view old new s t (record { entries = []; events = begins at bs; pending = [] })
    → CrashCondition view old new s t (record { entries = starts clock xs; events = begins at bs; pending = [] })
then_started view old new s t at clock bs xs same each leaves = record {
  state = leaves.state;
  crash = leaves.crash;
  now = leaves.now;
  starts = λ run u asked. let found = asked_starts at clock xs run u asked in record {
    store = new;
    first = begins at bs;
    rest = [];
    split = refl;
    begins = subst (λ (l : List Active). HasBegin run (begins at l)) each found.1;
    counted = found.0 ∙ same;
    before = subst (λ (l : List Event). CrashesTo (view old) (view new) (Prefix s l)) (append-nil (begins at bs)) leaves.crash;
    holds = holds;
    following = started (view new) (Prefix (after_all s (begins at bs)) []) (λ h c now. ([], [], refl, holds h c now));
  };
}
  where
    holds : (view new).honest → (x : State) → (view new).leaves (view new).clock x → x ≡ after_all s (begins at bs)
    holds h x now = settles view old new s t (record { entries = []; events = begins at bs; pending = [] }) refl leaves h x now ∙ leaves.state
