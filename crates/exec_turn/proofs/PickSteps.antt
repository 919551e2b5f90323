-- The starts of what has begun, and the batch of begins so far.
use Rattle.std.proofs.Common.{◌≡◌, ◌⊎◌, inl, inr, ℕ, ◌+◌, ◌<◌, ◌≤◌, true, false, List, [], ◌∷◌, ◌++◌, length, take, Some, None, refl, sym, ap, subst, ◌∙◌, arith}
use Rattle.std.specs.List.{AllByRecursion}
use Rattle.std.proofs.lemmas.Bool.{cases_lt}
use Rattle.std.proofs.lemmas.List.{append-nil, length-append, map-append}
use Rattle.ocf_model.specs.Due.{Due}
use Rattle.ocf_types.specs.Kinds.{Event, Registration}
use Rattle.ocf_types.specs.Limits.{num_max}
use Rattle.ocf_types.specs.Params.{ParamList}
use Rattle.ocf_model.specs.Indexes.{entry_at, id_at}
use Rattle.ocf_model.specs.Resource.{Resource}
use Rattle.ocf_types.specs.Encoding.{encoded_event}
use Rattle.ocf_model.specs.State.{State}
use Rattle.ocf_types.specs.declared.operation.Running.{Running}
use Rattle.ocf_model.specs.declared.reply.TurnEnd.TheVariants as turn_end
use Rattle.ocf_env.specs.Locations.{Call, SiteView}
use Rattle.store_model.specs.Batches.{encoded_batch, IsTooLong, kept_free}
use Rattle.child_model.specs.Children.{is_held}
use Rattle.exec_ledger.specs.Actives.{Active}
use Rattle.ocf_env.specs.Instances.{registration_of}
use Rattle.ocf_env.specs.Invocations.{IsInvocation}
use Rattle.exec_turn.specs.Launches.{HasOwnLaunch, IsStart, actions_of_starts, action_of_start}
use Rattle.exec_state.specs.StateValue.{Chooses}
use Rattle.exec_turn.specs.Picks.{ArePicks, Cut, MayBegin, Picked, begin_of, begins}
use Rattle.exec_turn.specs.declared.picks.StartOf.{StartOf}
use Rattle.exec_turn.proofs.Choosing.{Begins, begins_free, begins_held, picks_cut, picks_more}

-- an invocation of these texts is one of the resource whose texts they are
pub invoked : (site : SiteView) (id : List ℕ) (r : Resource) (running : Running) (call : Call) (own provider agent : List ℕ) (params : ParamList)
    → id ≡ own → provider ≡ r.provider → agent ≡ r.agent → params ≡ r.params
    → IsInvocation site (record { id = own; provider = provider; agent = agent; params = params }) running call
    → IsInvocation site (registration_of id r) running call
invoked site id r running call own provider agent params id_is provider_is agent_is params_is is =
    let given : Registration = record { id = own; provider = provider; agent = agent; params = params } in
    let same : given ≡ registration_of id r =
    λ k. record { id = sym id_is k; provider = provider_is k; agent = agent_is k; params = params_is k } in
    subst (λ (x : Registration). IsInvocation site x running call) same is

-- one more begin makes the batch longer by its encoding
pub batch_longer : (es : List Event) (e : Event) → length (encoded_batch (es ++ e ∷ [])) ≡ length (encoded_batch es) + length (encoded_event e)
batch_longer [] e = let size = length-append (encoded_event e) [] in omega (arith, size)
batch_longer (x ∷ xs) e =
    let size = length-append (encoded_event x) (encoded_batch (xs ++ e ∷ [])) in
    let size2 = length-append (encoded_event x) (encoded_batch xs) in
    omega (arith, size, size2, batch_longer xs e)

pub begins_push : (at : ℕ) (bs : List Active) (a : Active) → begins at (bs ++ a ∷ []) ≡ begins at bs ++ begin_of at a ∷ []
begins_push at bs a = map-append (begin_of at) bs (a ∷ [])

-- begins leave the reserve free
kept_after : (at : ℕ) (a : Active) (bs : List Active) → kept_free (begins at (a ∷ bs)) ≡ 32768
kept_after at a [] = refl
kept_after at a (b ∷ bs) = refl

kept : (at : ℕ) (bs : List Active) (a : Active) → kept_free (begins at (bs ++ a ∷ [])) ≡ 32768
kept at [] a = kept_after at a []
kept at (b ∷ bs) a = kept_after at b (bs ++ a ∷ [])

-- the encoding of the batch with one more begin
pub encoded_more : (at len more : ℕ) (bs : List Active) (a : Active) (batch : List Event) (e : Event) → batch ≡ begins at bs → e ≡ begin_of at a
    → len ≡ length (encoded_batch batch) → more ≡ length (encoded_event e) → length (encoded_batch (begins at (bs ++ a ∷ []))) ≡ len + more
encoded_more at len more bs a batch e batch_is e_is len_is more_is =
    let grown : begins at (bs ++ a ∷ []) ≡ batch ++ e ∷ [] = begins_push at bs a ∙ (λ k. sym batch_is k ++ sym e_is k ∷ []) in
    let size : length (encoded_batch (begins at (bs ++ a ∷ []))) ≡ length (encoded_batch (batch ++ e ∷ [])) = ap
    (λ (l : List Event). length (encoded_batch l)) grown in
    omega (arith, size, batch_longer batch e, len_is, more_is)

pub longer : {A : Type 0} (bs : List A) (a : A) → length (bs ++ a ∷ []) ≡ length bs + 1
longer bs a = length-append bs (a ∷ [])

-- where a longer batch does not fit
pub too_long : (s : State) (tail at run size : ℕ) (bs : List Active) (a : Active) → run ≡ s.next_run + length bs
    → run + 1 ≤ 9007199254740991
    → length (encoded_batch (begins at (bs ++ a ∷ []))) ≡ size → 8388608 < tail + 5 + size + 1 + 32768
    → (s.next_run + length (bs ++ a ∷ []) ≤ 9007199254740991) × IsTooLong tail (begins at (bs ++ a ∷ []))
too_long s tail at run size bs a run_is drawn size_is over =
    (omega (arith, run_is, drawn, longer bs a), omega (arith, kept at bs a, size_is, over))

-- where a longer batch fits
pub may_more : (s : State) (tail at run size : ℕ) (bs : List Active) (a : Active) → run ≡ s.next_run + length bs
    → run + 1 ≤ 9007199254740991
    → length (encoded_batch (begins at (bs ++ a ∷ []))) ≡ size → tail + 5 + size + 1 + 32768 ≤ 8388608 → MayBegin s tail at (bs ++ a ∷ [])
may_more s tail at run size bs a run_is drawn size_is fit = record {
  runs = omega (arith, run_is, drawn, longer bs a);
  reserve =
      λ some over. let over2 : 8388608
      < tail + 5 + length (encoded_batch (begins at (bs ++ a ∷ []))) + 1 + kept_free (begins at (bs ++ a ∷ [])) = over in
      absurd (omega (arith, kept at bs a, size_is, fit, over2));
}

-- a number that is not at most another is above it
pub above : (n m : ℕ) → (n ≤ m → ⊥) → m < n
above n m h = by (cases_lt m n)
  where
    by : (m < n) ⊎ (n ≤ m) → m < n
    by (inl lt) = lt
    by (inr le) = absurd (h le)

-- What the resources before an index begin while some are held, under run numbers up to the next one.
pub record SoFar (held : List (List ℕ)) (s : State) (due : Due) (tail at index next : ℕ) (bs : List Active) : Type 0 where
  pub picked : ArePicks held due at s.next_run (take index s.resources) bs
  pub next_is : next ≡ s.next_run + length bs
  pub may : MayBegin s tail at bs

module _ {held : List (List ℕ)} {s : State} {due : Due} {tail at index next : ℕ} {bs : List Active} (p : SoFar held s due tail at index next bs)
    (within : index < length s.resources) where
  -- the resource at the index begins nothing: it is held, or chooses nothing
  none_here : Begins held due at next (entry_at s index) None → SoFar held s due tail at (index + 1) next bs
  none_here now = record {
    picked = subst (λ (l : List Active). ArePicks held due at s.next_run (take (index + 1) s.resources) l) (append-nil bs)
        (picks_more held due at s.next_run next s.resources index bs None within p.picked p.next_is now);
    next_is = p.next_is;
    may = p.may;
  }

  pub held_here : is_held held (id_at s index) ≡ true → SoFar held s due tail at (index + 1) next bs
  held_here is = none_here (begins_held held due at next (entry_at s index) is)

  pub nothing_here : is_held held (id_at s index) ≡ false → Chooses due at next (entry_at s index) None
      → SoFar held s due tail at (index + 1) next bs
  nothing_here free now = none_here (begins_free held due at next (entry_at s index) None free now)

  -- it chooses an action, for which there is no run number, no space in the store or no memory, or which begins
  module _ {x : Running} (free : is_held held (id_at s index) ≡ false) (chooses : Chooses due at next (entry_at s index) (Some x)) where
    now : Begins held due at next (entry_at s index) (Some x)
    now = begins_free held due at next (entry_at s index) (Some x) free chooses

    abbrev here : Active
    here = record { id = id_at s index; running = x }

    cut_here : (Why : List Active → Type 0) → Why (bs ++ here ∷ []) → Cut held s due at bs Why
    cut_here Why why =
        let cut = picks_cut held due at s.next_run next s.resources index bs x within p.picked p.next_is now in
        record { next = here; later = cut.0; picks = cut.1; why = why }

    pub spent_here : num_max < next + 1 → Picked held turn_end.RunsSpent s due tail at bs
    spent_here spent = (cut_here (λ more. num_max < s.next_run + length more) (omega (arith, p.next_is, longer bs here, spent)), p.may)

    module _ (drawn : next + 1 ≤ num_max) {size : ℕ} (size_is : length (encoded_batch (begins at (bs ++ here ∷ []))) ≡ size) where
      pub full_here : 8388608 < tail + 5 + size + 1 + 32768 → Picked held turn_end.Full s due tail at bs
      full_here over = (
        cut_here (λ more. (s.next_run + length more ≤ num_max) × IsTooLong tail (begins at more))
            (too_long s tail at next size bs here p.next_is drawn size_is over),
        p.may,
      )

      pub no_memory_here : tail + 5 + size + 1 + 32768 ≤ 8388608 → Picked held turn_end.Memory s due tail at bs
      no_memory_here fit = (cut_here (MayBegin s tail at) (may_more s tail at next size bs here p.next_is drawn size_is fit), p.may)

      pub begun_here : {later : ℕ} → tail + 5 + size + 1 + 32768 ≤ 8388608 → later ≡ next + 1
          → SoFar held s due tail at (index + 1) later (bs ++ here ∷ [])
      begun_here fit later_is = record {
        picked = picks_more held due at s.next_run next s.resources index bs (Some x) within p.picked p.next_is now;
        next_is = omega (arith, p.next_is, longer bs here, later_is);
        may = may_more s tail at next size bs here p.next_is drawn size_is fit;
      }

-- the batch with one more begin
pub batch_more : (at : ℕ) (bs : List Active) (a : Active) (batch longer_batch : List Event) (e : Event) → longer_batch ≡ batch ++ e ∷ []
    → batch ≡ begins at bs → e ≡ begin_of at a
    → longer_batch ≡ begins at (bs ++ a ∷ [])
batch_more at bs a batch longer_batch e grown batch_is e_is = grown ∙ (λ k. batch_is k ++ e_is k ∷ []) ∙ sym (begins_push at bs a)

-- one more start
pub starting_more : (xs ys : List (StartOf Call)) (x : StartOf Call) (a : Active) → ys ≡ xs ++ x ∷ [] → action_of_start x ≡ a
    → actions_of_starts ys ≡ actions_of_starts xs ++ a ∷ []
starting_more xs ys x a grown is =
    ap actions_of_starts grown ∙ map-append action_of_start xs (x ∷ []) ∙ ap (λ (y : Active). actions_of_starts xs ++ y ∷ []) is

pub one_longer : {A : Type 0} (xs ys : List A) (x : A) → ys ≡ xs ++ x ∷ [] → length ys ≡ length xs + 1
one_longer xs ys x grown = ap (λ (l : List _). length l) grown ∙ longer xs x

pub each_push : {A : Type 0} (P : A → Type 0) (xs : List A) (x : A) → AllByRecursion P xs → P x → AllByRecursion P (xs ++ x ∷ [])
each_push P [] x h k = (k, tt)
each_push P (y ∷ ys) x h k = (h.0, each_push P ys x h.1 k)

-- each start is of one action
pub starts_of_one : (site : SiteView) (s : State) (xs : List (StartOf Call)) → AllByRecursion (IsStart site s) xs → AllByRecursion HasOwnLaunch xs
starts_of_one site s [] h = tt
starts_of_one site s (x ∷ xs) h = (h.0.of_one, starts_of_one site s xs h.1)
