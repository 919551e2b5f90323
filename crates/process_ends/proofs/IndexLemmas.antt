-- What was given up, and actions, by their index.
use Rattle.std.specs.Prelude.{true, ◌≡◌, ◌+◌, ◌<◌, ◌≤◌, ℕ, zero, suc, List, [], ◌∷◌, ◌++◌, Some, None, All, Contains, IfSome, Vec, is_some, length, map, take, slice_get, slice_index_or, slice_set}
use Rattle.std.proofs.Common.{add-one, ap, arith, refl, subst, sym, take_all, ◌∙◌}
use Rattle.std.proofs.lemmas.Option.{get_or_from_slice_get, slice_get_within}
use Rattle.std.proofs.Math.Seq.{map-set_same, take-suc-set}
use Rattle.std.proofs.Math.ListN.{get_or-map}
use Rattle.std.proofs.lemmas.List.{length-map, map-set}
use Rattle.std.proofs.lemmas.List.Elements.{All-push, All-set}
use Rattle.proc_files.specs.declared.process.Process.{Process}
use Rattle.agent_system.specs.Sights.{GivenUp, Sights}
use Rattle.agent_system.specs.SystemView.{SystemView, changed_at}
use Rattle.agent_system.specs.declared.agent_process.AgentProcess.{AgentProcess}
use Rattle.process_ends.specs.Endings.{AllDue, AreGivenUp, AreSameActions, IsChangedAt, IsGivenUpAt, IsMatched, IsSameAction, OnlySignals, dues, given_up_of, without_child}
use Rattle.process_ends.specs.declared.given_up.GivenUpAction.{GivenUpAction}

-- an element that is written where it is leaves the list as it is
pub set_same : {X : Type 0} (xs : List X) (at : ℕ) (x : X) → slice_get xs at ≡ Some x → slice_set xs at x ≡ xs
set_same [] at x e = absurd cc
set_same (y ∷ ys) zero x e = let same : x ≡ y = cc in ap (λ z. z ∷ ys) same
set_same (y ∷ ys) (suc at) x e = ap (λ zs. y ∷ zs) (set_same ys at x e)

-- an element that is changed is written
pub changed_set : {X : Type 0} (f : X → X) (xs : List X) (at : ℕ) (x : X) → slice_get xs at ≡ Some x
    → changed_at at f xs ≡ slice_set xs at (f x)
changed_set f [] at x e = absurd cc
changed_set f (y ∷ ys) zero x e = let same : y ≡ x = cc in ap (λ z. f z ∷ ys) same
changed_set f (y ∷ ys) (suc at) x e = ap (λ zs. y ∷ zs) (changed_set f ys at x e)

-- what was written is there
pub set_get : {X : Type 0} (xs : List X) (at : ℕ) (x y : X) → slice_get xs at ≡ Some x → slice_get (slice_set xs at y) at ≡ Some y
set_get [] at x y e = absurd cc
set_get (z ∷ zs) zero x y e = refl
set_get (z ∷ zs) (suc at) x y e = set_get zs at x y e

-- only what was written last is there
pub set_twice : {X : Type 0} (xs : List X) (at : ℕ) (x y : X) → slice_set (slice_set xs at x) at y ≡ slice_set xs at y
set_twice [] at x y = refl
set_twice (z ∷ zs) zero x y = refl
set_twice (z ∷ zs) (suc at) x y = ap (λ s. z ∷ s) (set_twice zs at x y)

-- what is at an index is in the list
pub get_contains : {X : Type 0} (xs : List X) (at : ℕ) (x : X) → slice_get xs at ≡ Some x → Contains xs x
get_contains xs at x e = (at, slice_get_within xs at x e, get_or_from_slice_get xs at x x e)

-- what a function gives of the element at an index
pub map_get : {X Y : Type 0} (f : X → Y) (xs : List X) (at : ℕ) (d : X) → at < length xs
    → slice_get (map f xs) at ≡ Some (f (slice_index_or xs at d))
map_get f [] at d within = absurd (omega (arith, within))
map_get f (y ∷ ys) zero d within = refl
map_get f (y ∷ ys) (suc at) d within = map_get f ys at d (omega (arith, within))

-- what holds of each element up to an index holds of all, where no more follow
pub all_whole : {X : Type 0} (P : X → Type 0) (xs ys : List X) (i : ℕ) → length xs ≤ i → xs ≡ ys → All P (take i xs) → All P ys
all_whole P xs ys i far same all = subst (All P) (take_all i xs far ∙ same) all

-- an action is what was given up at an index still, where nothing changed of that
pub kept_at : {T C A : Type 0} (process_of : C → AgentProcess) (s t : Sights) (at : ℕ) (a b : GivenUpAction T C A)
    → IsGivenUpAt process_of s at a → t.given_up ≡ s.given_up → given_up_of b ≡ given_up_of a → IsMatched process_of b
    → IsChangedAt process_of s t at b
kept_at process_of s t at a b is same kept matched = record {
  changed = same ∙ sym (set_same s.given_up at (given_up_of b) (is.is ∙ ap Some (sym kept)));
  matched = matched;
}

-- an action that changed is what was given up at its index
pub changed_at_index : {T C A : Type 0} (process_of : C → AgentProcess) (s t : Sights) (at : ℕ) (a b : GivenUpAction T C A)
    → IsGivenUpAt process_of s at a → IsChangedAt process_of s t at b → IsGivenUpAt process_of t at b
changed_at_index process_of s t at a b is changed = record {
  is = ap (λ xs. slice_get xs at) changed.changed ∙ set_get s.given_up at (given_up_of a) (given_up_of b) is.is;
  matched = changed.matched;
}

-- an action that changed twice
pub changed_twice : {T C A : Type 0} (process_of : C → AgentProcess) (s t u : Sights) (at : ℕ) (a b : GivenUpAction T C A)
    → IsChangedAt process_of s t at a → IsChangedAt process_of t u at b → IsChangedAt process_of s u at b
changed_twice process_of s t u at a b first second = record {
  changed = second.changed ∙ ap (λ xs. slice_set xs at (given_up_of b)) first.changed ∙ set_twice s.given_up at (given_up_of a) (given_up_of b);
  matched = second.matched;
}

-- an action that is what was given up at an index is among that
pub is_among : {T C A : Type 0} (process_of : C → AgentProcess) (s : Sights) (at : ℕ) (a : GivenUpAction T C A)
    → IsGivenUpAt process_of s at a → Contains s.given_up (given_up_of a)
is_among process_of s at a is = get_contains s.given_up at (given_up_of a) is.is

-- an action whose child is another handle of the same process
pub same_child : {T C A : Type 0} (a : GivenUpAction T C A) (x y : C) → a.child ≡ Some x
    → given_up_of (record a { child = Some y }) ≡ given_up_of a
same_child a x y e = ap (λ o. record { process = a.process; is_child = is_some o; known = a.known.items }) (sym e)

-- the child of an action is its process
pub matched_child : {T C A : Type 0} (process_of : C → AgentProcess) (a : GivenUpAction T C A) (x : C) → a.child ≡ Some x
    → IsMatched process_of a → process_of x ≡ a.process
matched_child process_of a x e matched = subst (λ o. IfSome o (λ c. process_of c ≡ a.process)) e matched

-- an action that was reaped
pub reaped_at : {T C A : Type 0} (process_of : C → AgentProcess) (s t : Sights) (at : ℕ) (a : GivenUpAction T C A)
    → IsGivenUpAt process_of s at a → t.given_up ≡ changed_at at without_child s.given_up
    → IsChangedAt process_of s t at (record a { child = None })
reaped_at process_of s t at a is reaped = record {
  changed = reaped ∙ changed_set without_child s.given_up at (given_up_of a) is.is;
  matched = tt;
}

-- an action of which other processes are known
pub known_at : {T C A : Type 0} (process_of : C → AgentProcess) (s t : Sights) (at : ℕ) (a : GivenUpAction T C A) (known : Vec Process A)
    (found : List Process) → IsGivenUpAt process_of s at a → t.given_up ≡ changed_at at (λ u. record u { known = found }) s.given_up
    → found ≡ known.items → IsChangedAt process_of s t at (record a { known = known })
known_at process_of s t at a known found is kept same = record {
  changed = kept ∙ changed_set (λ u. record u { known = found }) s.given_up at (given_up_of a) is.is
      ∙ ap (λ k. slice_set s.given_up at (record { process = a.process; is_child = is_some a.child; known = k })) same;
  matched = is.matched;
}

-- an action that changed before signals
pub signalled_changed : {T C A : Type 0} (process_of : C → AgentProcess) (s : Sights) (v w : SystemView) (at : ℕ) (a : GivenUpAction T C A)
    → IsChangedAt process_of s v.sights at a → OnlySignals v w → IsChangedAt process_of s w.sights at a
signalled_changed process_of s v w at a changed signals = record { changed = signals.given_up ∙ changed.changed; matched = changed.matched }

-- one of the actions that are all that was given up changes
pub set_given_up : {T C A : Type 0} (process_of : C → AgentProcess) (s t : Sights) (actions : List (GivenUpAction T C A)) (at : ℕ)
    (b : GivenUpAction T C A) → AreGivenUp process_of s actions → IsChangedAt process_of s t at b
    → AreGivenUp process_of t (slice_set actions at b)
set_given_up process_of s t actions at b are changed = record {
  are = changed.changed ∙ ap (λ us. slice_set us at (given_up_of b)) are.are ∙ sym (map-set given_up_of actions at b);
  matched = All-set (IsMatched process_of) actions at b changed.matched are.matched;
}

-- one of the actions becomes the same but for its processes
pub set_same_actions : {T C A : Type 0} (before actions : List (GivenUpAction T C A)) (at : ℕ) (b d : GivenUpAction T C A)
    → AreSameActions before actions → IsSameAction (slice_index_or actions at d) b → AreSameActions before (slice_set actions at b)
set_same_actions before actions at b d are same = record {
  whats = map-set_same (λ x. x.what) actions at b d same.what ∙ are.whats;
  processes = map-set_same (λ x. x.process) actions at b d same.process ∙ are.processes;
  dues = map-set_same (λ x. x.is_due) actions at b d same.due ∙ are.dues;
}

-- what holds of each element before an index, and of the one that is written there
pub set_more : {X : Type 0} (P : X → Type 0) (xs : List X) (i : ℕ) (b : X) → i < length xs → All P (take i xs) → P b
    → All P (take (i + 1) (slice_set xs i b))
set_more P xs i b within all here =
    subst (λ ys. All P ys) (sym (ap (λ n. take n (slice_set xs i b)) (add-one i) ∙ take-suc-set xs i b within)) (All-push P (take i xs) b all here)

-- each of the actions that are all that was given up is that at its index
pub is_at : {T C A : Type 0} (process_of : C → AgentProcess) (s : Sights) (actions : List (GivenUpAction T C A)) (at : ℕ)
    (d : GivenUpAction T C A) → AreGivenUp process_of s actions → at < length actions
    → IsGivenUpAt process_of s at (slice_index_or actions at d)
is_at process_of s actions at d are within = record {
  is = ap (λ us. slice_get us at) are.are ∙ map_get given_up_of actions at d within;
  matched = are.matched at d within;
}

-- the same of the elements at an index
at_along : {X Y : Type 0} (f : X → Y) (xs ys : List X) → map f ys ≡ map f xs → (k : ℕ) (d : X)
    → f (slice_index_or ys k d) ≡ f (slice_index_or xs k d)
at_along f xs ys same k d = sym (get_or-map f ys k d) ∙ ap (λ zs. slice_index_or zs k (f d)) same ∙ get_or-map f xs k d

-- what holds of each due action holds of others that the system has the same of
pub due_along : {T C A : Type 0} (P : GivenUp → Type 0) (xs ys : List (GivenUpAction T C A)) → map given_up_of ys ≡ map given_up_of xs
    → dues ys ≡ dues xs → AllDue P xs → AllDue P ys
due_along P xs ys known due all = λ k d within is.
    subst P (sym (at_along given_up_of xs ys known k d)) (all k d (long k within) (sym (at_along (λ a. a.is_due) xs ys due k d) ∙ is))
  where
    long : (k : ℕ) → k < length ys → k < length xs
    long k within = omega (arith, within, length-map ys given_up_of, length-map xs given_up_of, ap length known)

-- one action is all that was given up
pub alone : {T C A : Type 0} (process_of : C → AgentProcess) (s : Sights) (a : GivenUpAction T C A) → s.given_up ≡ given_up_of a ∷ []
    → IsMatched process_of a → AreGivenUp process_of s (a ∷ [])
alone process_of s a is matched = record { are = is; matched = All-push (IsMatched process_of) [] a (λ k d within. absurd (omega (arith, within))) matched }

pub alone_at : {T C A : Type 0} (process_of : C → AgentProcess) (s : Sights) (a : GivenUpAction T C A) → s.given_up ≡ given_up_of a ∷ []
    → IsMatched process_of a → IsGivenUpAt process_of s 0 a
alone_at process_of s a is matched = record { is = ap (λ us. slice_get us 0) is; matched = matched }

-- as many actions as before
pub same_long : {T C A : Type 0} (xs ys : List (GivenUpAction T C A)) → AreSameActions xs ys → length ys ≡ length xs
same_long xs ys same = omega (arith, length-map ys (λ a. a.is_due), length-map xs (λ a. a.is_due), ap length same.dues)

-- a list of one element
pub only_one : {X : Type 0} (ys : List X) (x : X) → length ys ≡ 1 → x ≡ slice_index_or ys 0 x → ys ≡ x ∷ []
only_one [] x long is = absurd (omega (arith, long))
only_one (y ∷ []) x long is = ap (λ z. z ∷ []) (sym is)
only_one (y ∷ z ∷ ys) x long is = absurd (omega (arith, long))

-- one due action stays one
pub first_due : {T C A : Type 0} (xs ys : List (GivenUpAction T C A)) (a d : GivenUpAction T C A) → xs ≡ a ∷ [] → AreSameActions xs ys
    → a.is_due ≡ true → (0 < length ys) × ((slice_index_or ys 0 d).is_due ≡ true)
first_due xs ys a d is same due = (
  omega (arith, same_long xs ys same, ap length is),
  at_along (λ x. x.is_due) xs ys same.dues 0 d ∙ ap (λ zs. (slice_index_or zs 0 d).is_due) is ∙ due,
)

-- the first element of a longer list
pub read_first : {X : Type 0} (n : ℕ) (ys zs : List X) (d : X) → 0 < length ys → 0 < n
    → slice_index_or (take n (ys ++ zs)) 0 d ≡ slice_index_or ys 0 d
read_first n [] zs d long some = absurd (omega (arith, long))
read_first zero (y ∷ ys) zs d long some = absurd (omega (arith, some))
read_first (suc n) (y ∷ ys) zs d long some = refl
