-- Resources that are held.
use Rattle.std.specs.Prelude.{◌≡◌, ◌||◌, ◌≤◌, ◌<◌, ◌⊎◌, ℕ, Bool, true, false, List, [], ◌∷◌, ◌++◌, Option, Some, All, cond, drop, length, map, option_map, slice_get, slice_index_or, slice_set, take}
use Rattle.std.specs.List.{list_any, remove}
use Rattle.std.proofs.Common.{ap, arith, inl, inr, refl, subst, suc, sym, zero, ◌∙◌}
use Rattle.std.proofs.Math.Seq.{map-set_same}
use Rattle.std.proofs.lemmas.List.{append-nil, append_assoc, drop-map, get_or-map, get_or-set_same, length-map, length-set, map-append, map-set, set_past, take-map}
use Rattle.std.proofs.lemmas.List.Elements.{All-append, All-drop, All-map, All-push, All-set, All-take, All-weaker, Contains-append_left}
use Rattle.std.proofs.lemmas.List.Folds.{list_any_at}
use Rattle.std.proofs.lemmas.Bool.{cases_lt, false≢true, le-leb}
use Rattle.std.proofs.lemmas.Option.{slice_get-get_or, slice_get-map}
use Rattle.agent_system.specs.May.{IsOver, IsOverAt}
use Rattle.agent_system.specs.Sights.{GivenUp, Sights}
use Rattle.agent_system.specs.SystemView.{SystemView}
use Rattle.agent_system.specs.declared.agent_process.AgentProcess.{AgentProcess}
use Rattle.agent_system.specs.declared.signal.Signal.TheVariants.{Kill}
use Rattle.agent_system.specs.declared.signal.Target.{Target}
use Rattle.agent_system.specs.declared.signal.Target.TheVariants as target
use Rattle.child_keeper.specs.Waits.{IsPart}
use Rattle.child_keeper.specs.Waits.{marked, settled, reported}
use Rattle.child_keeper.specs.declared.wait.WaitOf.{WaitOf}
use Rattle.process_ends.specs.Endings.{AllDue, AreGivenUp, AreSameActions, Begins, HasKill, HasKilled, HasLook, IsChangedAt, IsGivenUpAt, IsKilled, IsMatched, IsNoGroup, IsOneKilled, OnlyEnds, dues, given_up_of, processes}
use Rattle.process_ends.specs.declared.given_up.GivenUpAction.{GivenUpAction}
use Rattle.proc_files.specs.declared.process.Process.{Process}

-- a test of the ids of waits is a test of the waits
pub any_map : {X : Type 0} (p : List ℕ → Bool) (f : X → List ℕ) (xs : List X) → list_any (λ x. p (f x)) xs ≡ list_any p (map f xs)
any_map p f [] = refl
any_map p f (x ∷ xs) = ap (λ b. p (f x) || b) (any_map p f xs)

-- what has the function's values of a list's elements without one
pub map-remove : {X Y : Type 0} (f : X → Y) (xs : List X) (at : ℕ) → map f (remove xs at) ≡ remove (map f xs) at
map-remove f xs at =
    map-append f (take at xs) (drop (suc at) xs) ∙ ap (λ front. front ++ map f (drop (suc at) xs)) (sym (take-map f at xs))
    ∙ ap (λ back. take at (map f xs) ++ back) (sym (drop-map f (suc at) xs))

-- of all that was given up, the action at an index is given up there
pub given_up_at : {T C A : Type 0} (process_of : C → AgentProcess) (s : Sights) (xs : List (GivenUpAction T C A)) (at : ℕ) (x : GivenUpAction T C A)
    → AreGivenUp process_of s xs → at < length xs → x ≡ slice_index_or xs at x → IsGivenUpAt process_of s at x
given_up_at process_of s xs at x all within read =
    record {
      is = ap (λ us. slice_get us at) all.are ∙ slice_get-map given_up_of xs at
          ∙ ap (λ o. option_map given_up_of o) (slice_get-get_or xs at x within ∙ ap Some (sym read));
      matched = subst (IsMatched process_of) (sym read) (all.matched at x within);
    }

-- what was given up is all of these actions still after the one at an index changed
pub changed_at : {T C A : Type 0} (process_of : C → AgentProcess) (s t : Sights) (xs : List (GivenUpAction T C A)) (at : ℕ) (y : GivenUpAction T C A)
    → AreGivenUp process_of s xs → IsChangedAt process_of s t at y → AreGivenUp process_of t (slice_set xs at y)
changed_at process_of s t xs at y all changed =
    record {
      are = changed.changed ∙ ap (λ us. slice_set us at (given_up_of y)) all.are ∙ sym (map-set given_up_of xs at y);
      matched = All-set (IsMatched process_of) xs at y changed.matched all.matched;
    }

-- a changed action stays the one of the same process
pub processes_changed : {T C A : Type 0} (xs : List (GivenUpAction T C A)) (at : ℕ) (x y : GivenUpAction T C A) → x ≡ slice_index_or xs at x
    → y.process ≡ x.process → processes (slice_set xs at y) ≡ processes xs
processes_changed xs at x y read same = map-set_same (λ a. a.process) xs at y x (same ∙ ap (λ a. a.process) read)

-- the action that changed last and is over may be released
pub over_at : {T C A : Type 0} (process_of : C → AgentProcess) (s t : Sights) (xs : List (GivenUpAction T C A)) (at : ℕ) (y : GivenUpAction T C A)
    → AreGivenUp process_of s xs → at < length xs → IsChangedAt process_of s t at y → IsOver t (given_up_of y) → IsOverAt t at
over_at process_of s t xs at y all within changed over =
    let u = given_up_of y in
    let few : at < length s.given_up = omega (arith, ap length all.are, length-map xs given_up_of) in
    let set_within : at < length (slice_set s.given_up at u) = omega (arith, few, length-set s.given_up at u) in (
      u,
      ap (λ us. slice_get us at) changed.changed ∙ slice_get-get_or (slice_set s.given_up at u) at u set_within
          ∙ ap Some (get_or-set_same s.given_up at u u few),
      over,
    )

-- the processes of what is left after a changed action was removed
pub processes_removed : {T C A : Type 0} (xs : List (GivenUpAction T C A)) (at : ℕ) (x y : GivenUpAction T C A) → x ≡ slice_index_or xs at x
    → y.process ≡ x.process → processes (remove (slice_set xs at y) at) ≡ remove (processes xs) at
processes_removed xs at x y read same =
    map-remove (λ a. a.process) (slice_set xs at y) at ∙ ap (λ ps. remove ps at) (processes_changed xs at x y read same)

-- or after it changed otherwise than in its processes
pub kept_at : {T C A : Type 0} (process_of : C → AgentProcess) (s : Sights) (xs : List (GivenUpAction T C A)) (at : ℕ) (x y : GivenUpAction T C A)
    → AreGivenUp process_of s xs → x ≡ slice_index_or xs at x → y.process ≡ x.process → y.child ≡ x.child → y.known ≡ x.known
    → AreGivenUp process_of s (slice_set xs at y)
kept_at {T} {C} {A} process_of s xs at x y all read process child known =
    let same : given_up_of y ≡ given_up_of x = cc in
    let matches : IsMatched process_of x → IsMatched process_of y = λ m. rw (child, process) m in
    record {
      are = all.are ∙ sym (map-set_same given_up_of xs at y x (same ∙ ap given_up_of read));
      matched = elim (cases_lt at (length xs)) [
        | inl within ↦ All-set (IsMatched process_of) xs at y (matches (subst (IsMatched process_of) (sym read) (all.matched at x within))) all.matched
        | inr past ↦ subst (All (IsMatched process_of)) (sym (set_past xs at y past)) all.matched
      ];
    }

-- what was given up is all of these actions but one after that was released
pub released_at : {T C A : Type 0} (process_of : C → AgentProcess) (s t : Sights) (xs : List (GivenUpAction T C A)) (at : ℕ)
    → AreGivenUp process_of s xs → t.given_up ≡ remove s.given_up at → AreGivenUp process_of t (remove xs at)
released_at process_of s t xs at all released =
    record {
      are = released ∙ ap (λ us. remove us at) all.are ∙ sym (map-remove given_up_of xs at);
      matched = All-append (IsMatched process_of) (take at xs) (drop (suc at) xs) (All-take (IsMatched process_of) at xs all.matched)
          (All-drop (IsMatched process_of) (suc at) xs all.matched);
    }

-- what was given up is all of these actions after one more was added to both
pub added : {T C A : Type 0} (process_of : C → AgentProcess) (s t : Sights) (xs : List (GivenUpAction T C A)) (y : GivenUpAction T C A)
    → AreGivenUp process_of s xs → t.given_up ≡ s.given_up ++ given_up_of y ∷ [] → IsMatched process_of y
    → AreGivenUp process_of t (xs ++ y ∷ [])
added process_of s t xs y all more matched =
    record {
      are = more ∙ ap (λ us. us ++ given_up_of y ∷ []) all.are ∙ sym (map-append given_up_of xs (y ∷ []));
      matched = All-push (IsMatched process_of) xs y all.matched matched;
    }

-- a function that changes no action's processes changes nothing of what was given up
pub given_up-map : {T C A : Type 0} (f : GivenUpAction T C A → GivenUpAction T C A) → ((x : GivenUpAction T C A) → given_up_of (f x) ≡ given_up_of x)
    → (xs : List (GivenUpAction T C A)) → map given_up_of (map f xs) ≡ map given_up_of xs
given_up-map f same [] = refl
given_up-map f same (x ∷ xs) = cc (same x, given_up-map f same xs)

-- they are all that was given up still after such a function, which does not change their children either
pub mapped : {T C A : Type 0} (process_of : C → AgentProcess) (s : Sights) (xs : List (GivenUpAction T C A)) (f : GivenUpAction T C A → GivenUpAction T C A)
    → ((x : GivenUpAction T C A) → given_up_of (f x) ≡ given_up_of x) → ((x : GivenUpAction T C A) → IsMatched process_of x → IsMatched process_of (f x))
    → AreGivenUp process_of s xs → AreGivenUp process_of s (map f xs)
mapped process_of s xs f same matches all =
    record {
      are = all.are ∙ sym (given_up-map f same xs);
      matched = All-map (IsMatched process_of) f xs (All-weaker (IsMatched process_of) (λ x. IsMatched process_of (f x)) matches xs all.matched);
    }

-- to mark waits, to settle them and to report them changes nothing of what was given up
pub marked_all : {C M : Type 0} (process_of : C → AgentProcess) (s : Sights) (now : ℕ) (xs : List (GivenUpAction WaitOf C M))
    → AreGivenUp process_of s xs → AreGivenUp process_of s (map (marked now) xs)
marked_all process_of s now xs = mapped process_of s xs (marked now) (λ x. refl) (λ x m. m)

settled_same : {C M : Type 0} (until : ℕ) (x : GivenUpAction WaitOf C M) → given_up_of (settled until x) ≡ given_up_of x
settled_same until x =
    elim x.is_due as (λ b. given_up_of (cond b (record x { is_due = false; what = record x.what { until = until; is_killed = true } }) x) ≡ given_up_of x) [
      | true ↦ refl
      | false ↦ refl
    ]

settled_matches : {C M : Type 0} (process_of : C → AgentProcess) (until : ℕ) (x : GivenUpAction WaitOf C M) → IsMatched process_of x
    → IsMatched process_of (settled until x)
settled_matches process_of until x m =
    elim x.is_due as (λ b. IsMatched process_of (cond b (record x { is_due = false; what = record x.what { until = until; is_killed = true } }) x)) [
      | true ↦ m
      | false ↦ m
    ]

pub settled_all : {C M : Type 0} (process_of : C → AgentProcess) (s : Sights) (until : ℕ) (xs : List (GivenUpAction WaitOf C M))
    → AreGivenUp process_of s xs → AreGivenUp process_of s (map (settled until) xs)
settled_all process_of s until xs = mapped process_of s xs (settled until) (settled_same until) (settled_matches process_of until)

pub reported_all : {C M : Type 0} (process_of : C → AgentProcess) (s : Sights) (xs : List (GivenUpAction WaitOf C M))
    → AreGivenUp process_of s xs → AreGivenUp process_of s (map reported xs)
reported_all process_of s xs = mapped process_of s xs reported (λ x. refl) (λ x m. m)

-- nor does it change their processes
pub processes-map : {T C A : Type 0} (f : GivenUpAction T C A → GivenUpAction T C A) → ((x : GivenUpAction T C A) → given_up_of (f x) ≡ given_up_of x)
    → (xs : List (GivenUpAction T C A)) → processes (map f xs) ≡ processes xs
processes-map f same [] = refl
processes-map f same (x ∷ xs) = cc (ap (λ u. u.process) (same x), processes-map f same xs)

pub marked_processes : {C M : Type 0} (now : ℕ) (xs : List (GivenUpAction WaitOf C M)) → processes (map (marked now) xs) ≡ processes xs
marked_processes now xs = processes-map (marked now) (λ x. refl) xs

pub settled_processes : {C M : Type 0} (until : ℕ) (xs : List (GivenUpAction WaitOf C M)) → processes (map (settled until) xs) ≡ processes xs
settled_processes until xs = processes-map (settled until) (settled_same until) xs

pub reported_processes : {C M : Type 0} (xs : List (GivenUpAction WaitOf C M)) → processes (map reported xs) ≡ processes xs
reported_processes xs = processes-map reported (λ x. refl) xs

-- the system's views go on
pub begins_more : {X : Type 0} (a b c : List X) → Begins b a → Begins c b → Begins c a
begins_more a b c first second =
    (first.0 ++ second.0, second.1 ∙ ap (λ xs. xs ++ second.0) first.1 ∙ append_assoc a first.0 second.0)

pub ends_more : (u v w : SystemView) → OnlyEnds u v → OnlyEnds v w → OnlyEnds u w
ends_more u v w first second =
    record {
      live = second.live ∙ first.live;
      own = second.own ∙ first.own;
      spawned = second.spawned ∙ first.spawned;
      asked = second.asked ∙ first.asked;
      let_run = second.let_run ∙ first.let_run;
      polled = second.polled ∙ first.polled;
      found = second.found ∙ first.found;
      sent = begins_more u.sent v.sent w.sent first.sent second.sent;
      looked = begins_more u.looked v.looked w.looked first.looked second.looked;
    }

pub ends_same : (v : SystemView) → OnlyEnds v v
ends_same v =
    record {
      live = refl;
      own = refl;
      spawned = refl;
      asked = refl;
      let_run = refl;
      polled = refl;
      found = refl;
      sent = ([], sym (append-nil v.sent));
      looked = ([], sym (append-nil v.looked));
    }

-- a list is a part of itself, and without one of its elements still a part of what it was a part of
pub part_same : {X : Type 0} (xs : List X) → IsPart xs xs
part_same [] = refl
part_same (x ∷ xs) = inr (xs, refl, part_same xs)

remove_nil : {X : Type 0} (at : ℕ) → ◌≡◌ {A = List X} (remove [] at) []
remove_nil zero = refl
remove_nil (suc at) = refl

pub part_removed : {X : Type 0} (xs ys : List X) (at : ℕ) → IsPart xs ys → IsPart (remove xs at) ys
part_removed {X} xs [] at none = ap (λ (zs : List X). remove zs at) none ∙ remove_nil at
part_removed xs (y ∷ ys) at (inl later) = inl (part_removed xs ys at later)
part_removed {X} xs (y ∷ ys) zero (inr here) = inl (subst (λ (zs : List X). IsPart (remove zs zero) ys) (sym here.1) here.2)
part_removed {X} xs (y ∷ ys) (suc at) (inr here) =
    inr (remove here.0 at, ap (λ (zs : List X). remove zs (suc at)) here.1, part_removed here.0 ys at here.2)

-- a part of a part of a list is a part of it
part_of_both : {X : Type 0} (xs : List X) (z : X) (rest zs : List X) → ((us : List X) → IsPart us rest → IsPart us zs) → IsPart xs (z ∷ rest)
    → IsPart xs (z ∷ zs)
part_of_both xs z rest zs more (inl later) = inl (more xs later)
part_of_both xs z rest zs more (inr here) = inr (here.0, here.1, more here.0 here.2)

pub part_more : {X : Type 0} (xs ys zs : List X) → IsPart xs ys → IsPart ys zs → IsPart xs zs
part_more {X} xs ys [] part none = subst (λ (us : List X). IsPart xs us) none part
part_more xs ys (z ∷ zs) part (inl later) = inl (part_more xs ys zs part later)
part_more {X} xs ys (z ∷ zs) part (inr here) =
    part_of_both xs z here.0 zs (λ us p. part_more us here.0 zs p here.2) (subst (λ (us : List X). IsPart xs us) here.1 part)

-- none is due if none of the marked waits is
pub none_due : {C M : Type 0} (v w : SystemView) (now : ℕ) (xs : List (GivenUpAction WaitOf C M)) → list_any (λ x. x.is_due) (map (marked now) xs) ≡ false
    → All (λ x. x.what.until ≤ now → HasKilled v w x.process) xs
none_due v w now xs none k d within due =
    let marks = map (marked now) xs in
    let x = slice_index_or xs k d in
    let at : slice_index_or marks k d ≡ marked now x = get_or-map (marked now) xs k d d within in
    let is_due = ap (λ y. y.is_due) at ∙ le-leb x.what.until now due in
    absurd (false≢true (sym none ∙ list_any_at (λ y. y.is_due) marks k d (omega (arith, length-map xs (marked now), within)) is_due))

-- the waits that were due are killed, if those that were marked are
pub due_killed : {C M : Type 0} (v w : SystemView) (now : ℕ) (xs ys : List (GivenUpAction WaitOf C M)) → AreSameActions (map (marked now) xs) ys
    → AllDue (IsKilled v w) ys → All (λ x. x.what.until ≤ now → HasKilled v w x.process) xs
due_killed v w now xs ys same killed k d within due =
    let marks = map (marked now) xs in
    let x = slice_index_or xs k d in
    let y = slice_index_or ys k d in
    let many = length-map xs (marked now) in
    let as_many : length ys ≡ length marks =
    omega (arith, ap length same.processes, length-map ys (λ a. a.process), length-map marks (λ a. a.process)) in
    let in_marks : k < length marks = omega (arith, many, within) in
    let in_ys : k < length ys = omega (arith, as_many, in_marks) in
    let at : slice_index_or marks k d ≡ marked now x = get_or-map (marked now) xs k d d within in
    let dues_at : slice_index_or (dues ys) k true ≡ slice_index_or (dues marks) k true = ap (λ bs. slice_index_or bs k true) same.dues in
    let is_due =
    sym (get_or-map (λ a. a.is_due) ys k d true in_ys) ∙ dues_at ∙ get_or-map (λ a. a.is_due) marks k d true in_marks
    ∙ ap (λ a. a.is_due) at ∙ le-leb x.what.until now due in
    let processes_at : slice_index_or (processes ys) k d.process ≡ slice_index_or (processes marks) k d.process =
    ap (λ ps. slice_index_or ps k d.process) same.processes in
    let process =
    sym (get_or-map (λ a. a.process) ys k d d.process in_ys) ∙ processes_at ∙ get_or-map (λ a. a.process) marks k d d.process in_marks
    ∙ ap (λ a. a.process) at in
    (given_up_of y, process, killed k d in_ys is_due)

-- what was requested between two views was requested between the first and a later one
kill_later : (v m w : SystemView) (to : Target) → OnlyEnds m w → HasKill v m to → HasKill v w to
kill_later v m w to more kill =
    let sent = more.sent in (
      kill.0 ++ sent.0,
      sent.1 ∙ ap (λ xs. xs ++ sent.0) kill.1 ∙ append_assoc v.sent kill.0 sent.0,
      Contains-append_left kill.0 sent.0 (record { signal = Kill; target = to }) kill.2,
    )

look_later : (v m w : SystemView) (pid : ℕ) (answer : Option (Option Process)) → OnlyEnds m w → HasLook v m pid answer → HasLook v w pid answer
look_later v m w pid answer more look =
    let looked = more.looked in (
      look.0 ++ looked.0,
      looked.1 ∙ ap (λ xs. xs ++ looked.0) look.1 ∙ append_assoc v.looked look.0 looked.0,
      Contains-append_left look.0 looked.0 (record { pid = pid; answer = answer }) look.2,
    )

group_later : (v m w : SystemView) (u : GivenUp) → OnlyEnds m w → HasKill v m (target.Group u.process.pid) ⊎ IsNoGroup v m u
    → HasKill v w (target.Group u.process.pid) ⊎ IsNoGroup v w u
group_later v m w u more (inl kill) = inl (kill_later v m w (target.Group u.process.pid) more kill)
group_later v m w u more (inr (inl other)) =
    inr (inl (other.0, look_later v m w u.process.pid other.0 more other.1, other.2, other.3))
group_later v m w u more (inr (inr own_group)) = inr (inr (own_group.0, more.own ∙ own_group.1, own_group.2))

one_later : (v m w : SystemView) (group : ℕ) (q : Process) → OnlyEnds m w → IsOneKilled v m group q → IsOneKilled v w group q
one_later v m w group q more (inl kill) = inl (kill_later v m w (target.Process q.pid) more kill)
one_later v m w group q more (inr (inl member)) =
    inr (inl (member.0, kill_later v m w (target.Group group) more member.1))
one_later v m w group q more (inr (inr gone)) =
    inr (inr (gone.0, look_later v m w q.pid gone.0 more gone.1, gone.2))

-- what was killed until a view was killed until a later one
pub killed_later : (v m w : SystemView) (p : AgentProcess) → OnlyEnds m w → HasKilled v m p → HasKilled v w p
killed_later v m w p more killed =
    let u = killed.0 in
    let k = killed.2 in (
      u,
      killed.1,
      record {
        group = group_later v m w u more k.group;
        agent = λ c. kill_later v m w (target.Process u.process.pid) more (k.agent c);
        known = All-weaker (IsOneKilled v m u.process.pid) (IsOneKilled v w u.process.pid) (λ q one. one_later v m w u.process.pid q more one) u.known
            k.known;
      },
    )
