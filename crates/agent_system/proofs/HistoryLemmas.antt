-- What calls reach: which processes are known, and which are over.
use Rattle.std.proofs.Common.{◌≡◌, ◌⊎◌, inl, inr, ⊎_elim, ℕ, ◌==◌, true, false, not, List, [], ◌∷◌, ◌++◌, Contains, get_or, refl, sym, ap, subst, ◌∙◌}
use Rattle.std.specs.Prelude.{◌≢◌, All, Option, Some, None, Ok, Err, map, slice_get}
use Rattle.std.specs.List.{remove}
use Rattle.std.proofs.lemmas.List.{map-append}
use Rattle.std.proofs.lemmas.Bool.{cases_eq, eq-eqb, ne_eqb}
use Rattle.std.proofs.lemmas.List.Elements.{All-contains, All-map, All-nil, All-weaker, Contains-append_cases, Contains-append_left, Contains-append_right, Contains-push, Contains-push_cases}
use Rattle.ocf_types.specs.Lemmas.{some_is}
use Rattle.agent_system.proofs.PairLemmas.{IsParted, filter_left, in_map, kept_is_of, map_changed, map_removed, move_right, nothing_in, of_parted, parted_weaker, passing_is_kept, push_left, push_right, read_map, remove_right, stays_or_removed}
use Rattle.agent_system.specs.Histories.{AllPairs, AreApart, HaveOwnRuns, IsAsked, IsFound, IsKnownOrOver, IsNext, Reaches, WasOver, WasSeenEnded, adopt, ask, asked, give_up, given_up_in, keep, kill, known_in, let_run, list, look, members, more, none, opened, poll, processes_of, reap, release, send, spawn}
use Rattle.agent_system.specs.May.{IsFree, IsOver}
use Rattle.agent_system.specs.Sights.{GivenUp}
use Rattle.agent_system.specs.SystemView.{Polled, Spawned, SystemView, process_in, unasked, without_process}
use Rattle.agent_system.specs.declared.agent_process.AgentProcess.{AgentProcess}
use Rattle.proc_files.specs.declared.process.Process.{Process}

-- what was given up and is over
record IsOverThere (v : SystemView) (p : AgentProcess) : Type 0 where
  its : GivenUp
  given_up : Contains v.sights.given_up its
  process : its.process ≡ p
  over : IsOver v.sights its

-- how a call changes what lives, what was given up, and what was spawned
data Change (v w : SystemView) : Type 0 where
  same : w.sights.live ≡ v.sights.live → given_up_in w ≡ given_up_in v → processes_of w ≡ processes_of v → Change v w
  one_spawned : (p : AgentProcess) → IsFree v.sights p.id → w.sights.live ≡ v.sights.live ++ p ∷ []
      → given_up_in w ≡ given_up_in v → processes_of w ≡ processes_of v ++ p ∷ [] → Change v w
  one_asked : (p : AgentProcess) → w.sights.live ≡ v.sights.live ++ p ∷ [] → given_up_in w ≡ given_up_in v → processes_of w ≡ processes_of v
      → w.asked ≢ [] → Change v w
  one_ended : (p : AgentProcess) → Contains v.sights.live p → w.sights.live ≡ without_process p.run v.sights.live
      → given_up_in w ≡ given_up_in v → processes_of w ≡ processes_of v → WasSeenEnded w p → Change v w
  one_given_up : (p : AgentProcess) → Contains v.sights.live p → w.sights.live ≡ without_process p.run v.sights.live
      → given_up_in w ≡ given_up_in v ++ p ∷ [] → processes_of w ≡ processes_of v → Change v w
  one_adopted : (p : AgentProcess) → IsFound w p → w.sights.live ≡ v.sights.live
      → given_up_in w ≡ given_up_in v ++ p ∷ [] → processes_of w ≡ processes_of v → Change v w
  one_released : (at : ℕ) → w.sights.live ≡ v.sights.live → given_up_in w ≡ remove (given_up_in v) at
      → ((p : AgentProcess) → slice_get (given_up_in v) at ≡ Some p → IsOverThere v p) → processes_of w ≡ processes_of v → Change v w

-- what is noted stays
record Keeps (v w : SystemView) : Type 0 where
  polled : (x : Polled) → Contains v.polled x → Contains w.polled x
  found : (p : AgentProcess) → IsFound v p → IsFound w p
  unasked : w.asked ≡ [] → v.asked ≡ []

abbrev keeps_all : (v w : SystemView) → w.polled ≡ v.polled → w.found ≡ v.found → w.asked ≡ v.asked → Keeps v w
keeps_all v w polled found same_asked = record {
  polled = λ x has. subst (λ l. Contains l x) (sym polled) has;
  found = λ p has. subst (λ l. Contains (map process_in l) p) (sym found) has;
  unasked = λ empty. sym same_asked ∙ empty;
}

never_empty : {X : Type 0} (xs : List X) (x : X) → xs ++ x ∷ [] ≢ []
never_empty xs x empty = nothing_in x (subst (λ l. Contains l x) empty (Contains-push xs x))

asked_keeps : (v w : SystemView) → IsAsked v w → Keeps v w
asked_keeps v _ (let_run p (Ok x) lives) = keeps_all v _ refl refl refl
asked_keeps v _ (let_run p (Err error) lives) = keeps_all v _ refl refl refl
asked_keeps v _ (kill at p its) = keeps_all v _ refl refl refl
asked_keeps v _ (send signal to may) = keeps_all v _ refl refl refl
asked_keeps v _ (list None) = keeps_all v _ refl refl refl
asked_keeps v _ (list (Some table)) = keeps_all v _ refl refl refl
asked_keeps v _ (look pid answer) = keeps_all v _ refl refl refl
asked_keeps v _ (members group None) = keeps_all v _ refl refl refl
asked_keeps v _ (members group (Some true)) = keeps_all v _ refl refl refl
asked_keeps v _ (members group (Some false)) = keeps_all v _ refl refl refl
asked_keeps v _ (opened None) = keeps_all v _ refl refl refl
asked_keeps v _ (opened (Some entries)) = record {
  polled = λ x has. has;
  found = λ p has. rw (map-append process_in v.found entries) (Contains-append_left (map process_in v.found) (map process_in entries) p has);
  unasked = λ empty. empty;
}

asked_changes : (v w : SystemView) → IsAsked v w → Change v w
asked_changes v _ (let_run p (Ok x) lives) = same refl refl refl
asked_changes v _ (let_run p (Err error) lives) = same refl refl refl
asked_changes v _ (kill at p its) = same refl refl refl
asked_changes v _ (send signal to may) = same refl refl refl
asked_changes v _ (list None) = same refl refl refl
asked_changes v _ (list (Some table)) = same refl refl refl
asked_changes v _ (look pid answer) = same refl refl refl
asked_changes v _ (members group None) = same refl refl refl
asked_changes v _ (members group (Some true)) = same refl refl refl
asked_changes v _ (members group (Some false)) = same refl refl refl
asked_changes v _ (opened None) = same refl refl refl
asked_changes v _ (opened (Some entries)) = same refl refl refl

keeps : (v w : SystemView) → IsNext v w → Keeps v w
keeps v _ (asked w is) = asked_keeps v w is
keeps v _ (spawn call leader None free) = keeps_all v _ refl refl refl
keeps v _ (spawn call leader (Some p) free) = keeps_all v _ refl refl refl
keeps v _ (ask call leader None) = keeps_all v _ refl refl refl
keeps v _ (ask call leader (Some p)) = record {
  polled = λ x has. has;
  found = λ q has. has;
  unasked = λ empty. absurd (never_empty v.asked (record { process = p; call = call; leader = leader }) empty);
}
keeps v _ (poll p answer lives) = record {
  polled = λ x has. Contains-append_left v.polled (record { process = p; answer = answer } ∷ []) x has;
  found = λ q has. has;
  unasked = λ empty. empty;
}
keeps v _ (give_up p lives) = keeps_all v _ refl refl refl
keeps v _ (adopt e found) = keeps_all v _ refl refl refl
keeps v _ (reap at p (Ok None) its) = keeps_all v _ refl refl refl
keeps v _ (reap at p (Ok (Some status)) its) = keeps_all v _ refl refl refl
keeps v _ (reap at p (Err error) its) = keeps_all v _ refl refl refl
keeps v _ (keep at found may) = keeps_all v _ refl refl refl
keeps v _ (release at over) = keeps_all v _ refl refl refl

changes : (v w : SystemView) → IsNext v w → Change v w
changes v _ (asked w is) = asked_changes v w is
changes v _ (spawn call leader None free) = same refl refl refl
changes v _ (spawn call leader (Some p) free) =
    one_spawned p free refl refl (map-append (λ (s : Spawned). s.process) v.spawned (record { process = p; call = call; leader = leader } ∷ []))
changes v _ (ask call leader None) = same refl refl refl
changes v _ (ask call leader (Some p)) = one_asked p refl refl refl (never_empty v.asked (record { process = p; call = call; leader = leader }))
changes v _ (poll p (Ok None) lives) = same refl refl refl
changes v _ (poll p (Ok (Some status)) lives) =
    one_ended p lives refl refl refl (status, Contains-push v.polled (record { process = p; answer = Ok (Some status) }))
changes v _ (poll p (Err error) lives) = same refl refl refl
changes v _ (give_up p lives) =
    one_given_up p lives refl (map-append (λ (u : GivenUp). u.process) v.sights.given_up (record { process = p; is_child = true; known = [] } ∷ [])) refl
changes v _ (adopt e found) =
    one_adopted (process_in e) (in_map process_in v.found e found) refl
    (map-append (λ (u : GivenUp). u.process) v.sights.given_up (record { process = process_in e; is_child = false; known = [] } ∷ [])) refl
changes v _ (reap at p (Ok None) its) = same refl refl refl
changes v _ (reap at p (Ok (Some status)) its) =
    same refl (map_changed (λ (u : GivenUp). u.process) (λ u. record u { is_child = false }) (λ u. refl) at v.sights.given_up) refl
changes v _ (reap at p (Err error) its) = same refl refl refl
changes v _ (keep at found may) =
    same refl (map_changed (λ (u : GivenUp). u.process) (λ u. record u { known = found }) (λ u. refl) at v.sights.given_up) refl
changes v _ (release at over) =
    let read = read_map (λ (u : GivenUp). u.process) v.sights.given_up at over.0 over.1 in
    one_released at refl (map_removed (λ (u : GivenUp). u.process) v.sights.given_up at)
    (λ p its. record { its = over.0; given_up = read.0; process = some_is over.0.process p (sym read.1 ∙ its); over = over.2 }) refl

-- ---- of one resource there is one at most

turned : (v : SystemView) (p q : AgentProcess) → AreApart v p q → AreApart v q p
turned v p q apart = ⊎_elim (λ other. inl (λ same. other (sym same))) (λ found. inr (⊎_elim inr inl found)) apart

still_apart : (v w : SystemView) → Keeps v w → (p q : AgentProcess) → AreApart v p q → AreApart w p q
still_apart v w k p q apart = ⊎_elim inl (λ found. inr (⊎_elim (λ f. inl (k.found p f)) (λ f. inr (k.found q f)) found)) apart

abbrev Apart : SystemView → List AgentProcess → List AgentProcess → Type 0
Apart v live given_up = IsParted (AreApart v) live given_up

-- its own run is not another's
own_run : (p : AgentProcess) → not (p.run == p.run) ≡ false
own_run p = ap not (eq-eqb p.run p.run refl)

all_so : {X : Type 0} (P : X → Type 0) → ((x : X) → P x) → (xs : List X) → All P xs
all_so P f xs k d lt = f (get_or xs k d)

apart_after : (v w : SystemView) → w.asked ≡ [] → Change v w → Apart w v.sights.live (given_up_in v) → Apart w w.sights.live (given_up_in w)
apart_after v w empty change h = by change
  where
    at : (live given_up : List AgentProcess) → w.sights.live ≡ live → given_up_in w ≡ given_up → Apart w live given_up → Apart w w.sights.live (given_up_in w)
    at live given_up is_live is_given_up apart =
        subst (λ l. Apart w l (given_up_in w)) (sym is_live) (subst (λ l. Apart w live l) (sym is_given_up) apart)

    by : Change v w → Apart w w.sights.live (given_up_in w)
    by (same live given_up spawned) = at _ _ live given_up h
    by (one_spawned p free live given_up spawned) = at _ _ live given_up
        (push_left (AreApart w) v.sights.live (given_up_in v) p
        (All-weaker (λ q. q.id ≢ p.id) (λ q. AreApart w q p) (λ q other. inl other) v.sights.live free.live)
        (All-map (AreApart w p) (λ (u : GivenUp). u.process) v.sights.given_up
        (All-weaker (λ u. u.process.id ≢ p.id) (λ u. AreApart w p u.process) (λ u other. inl (λ same. other (sym same))) v.sights.given_up free.given_up))
        h)
    by (one_asked p live given_up spawned some) = absurd (some empty)
    by (one_ended p lives live given_up spawned seen) = at _ _ live given_up (filter_left (AreApart w) (λ q. not (q.run == p.run)) v.sights.live (given_up_in v) h)
    by (one_given_up p lives live given_up spawned) = at _ _ live given_up
        (move_right (AreApart w) (turned w) (λ q. not (q.run == p.run)) v.sights.live (given_up_in v) p lives (own_run p) h)
    by (one_adopted p found live given_up spawned) = at _ _ live given_up
        (push_right (AreApart w) v.sights.live (given_up_in v) p
        (all_so (λ q. AreApart w q p) (λ q. inr (inr found)) v.sights.live)
        (all_so (λ q. AreApart w q p) (λ q. inr (inr found)) (given_up_in v)) h)
    by (one_released at' live given_up over spawned) = at _ _ live given_up (remove_right (AreApart w) v.sights.live (given_up_in v) at' h)

apart_in : (own : Option Process) (v : SystemView) → Reaches (unasked own) v → v.asked ≡ [] → Apart v v.sights.live (given_up_in v)
apart_in own _ none empty = record { left = tt; right = tt; across = All-nil (λ p. All (AreApart (unasked own) p) []) }
apart_in own _ (more m w reached next) empty =
    apart_after m w empty (changes m w next)
    (parted_weaker (AreApart m) (AreApart w) (still_apart m w (keeps m w next)) m.sights.live (given_up_in m)
    (apart_in own m reached ((keeps m w next).unasked empty)))

pub apart : (own : Option Process) (v : SystemView) → Reaches (unasked own) v → v.asked ≡ [] → AllPairs (AreApart v) (known_in v)
apart own v reached empty = of_parted (AreApart v) v.sights.live (given_up_in v) (apart_in own v reached empty)

-- ---- what was known is known until it is over

reached_on : (u v w : SystemView) → Reaches u v → Reaches v w → Reaches u w
reached_on u v _ before none = before
reached_on u v _ before (more m w reached next) = more m w (reached_on u v m before reached) next

over_on : (start m w : SystemView) (p : AgentProcess) → IsNext m w → WasOver start m p → WasOver start w p
over_on start m w p next over = record {
  at = over.at;
  before = over.before;
  after = more m w over.after next;
  its = over.its;
  given_up = over.given_up;
  process = over.process;
  over = over.over;
}

over_there : (start m w : SystemView) (p : AgentProcess) → Reaches start m → IsNext m w → IsOverThere m p → WasOver start w p
over_there start m w p reached next over = record {
  at = m;
  before = reached;
  after = more m w none next;
  its = over.its;
  given_up = over.given_up;
  process = over.process;
  over = over.over;
}

-- what was given up stays so, or is over
given_up_next : (v w : SystemView) (p : AgentProcess) → Change v w → Contains (given_up_in v) p → Contains (given_up_in w) p ⊎ IsOverThere v p
given_up_next v w p change has = by change
  where
    at : (us : List AgentProcess) → given_up_in w ≡ us → Contains us p → Contains (given_up_in w) p ⊎ IsOverThere v p
    at us is so = inl (subst (λ l. Contains l p) (sym is) so)

    by : Change v w → Contains (given_up_in w) p ⊎ IsOverThere v p
    by (same live given_up spawned) = at _ given_up has
    by (one_spawned q free live given_up spawned) = at _ given_up has
    by (one_asked q live given_up spawned some) = at _ given_up has
    by (one_ended q lives live given_up spawned seen) = at _ given_up has
    by (one_given_up q lives live given_up spawned) = at _ given_up (Contains-append_left (given_up_in v) (q ∷ []) p has)
    by (one_adopted q found live given_up spawned) = at _ given_up (Contains-append_left (given_up_in v) (q ∷ []) p has)
    by (one_released index live given_up over spawned) =
        ⊎_elim (at _ given_up) (λ is. inr (over p is)) (stays_or_removed (given_up_in v) index p has)

pub given_up_until : (start v w : SystemView) (p : AgentProcess) → Reaches start v → Reaches v w → Contains (given_up_in v) p
    → Contains (given_up_in w) p ⊎ WasOver start w p
given_up_until start v _ p before none has = inl has
given_up_until start v _ p before (more m w reached next) has = ⊎_elim
    (λ kept. ⊎_elim inl (λ over. inr (over_there start m w p (reached_on start v m before reached) next over)) (given_up_next m w p (changes m w next) kept))
    (λ over. inr (over_on start m w p next over))
    (given_up_until start v m p before reached has)

-- what lives was spawned
spawned_next : (v w : SystemView) (p : AgentProcess) → Change v w → Contains (processes_of v) p → Contains (processes_of w) p
spawned_next v w p change has = by change
  where
    at : (ps : List AgentProcess) → processes_of w ≡ ps → Contains ps p → Contains (processes_of w) p
    at ps is so = subst (λ l. Contains l p) (sym is) so

    by : Change v w → Contains (processes_of w) p
    by (same live given_up spawned) = at _ spawned has
    by (one_spawned q free live given_up spawned) = at _ spawned (Contains-append_left (processes_of v) (q ∷ []) p has)
    by (one_asked q live given_up spawned some) = at _ spawned has
    by (one_ended q lives live given_up spawned seen) = at _ spawned has
    by (one_given_up q lives live given_up spawned) = at _ spawned has
    by (one_adopted q found live given_up spawned) = at _ spawned has
    by (one_released index live given_up over spawned) = at _ spawned has

lives_back : (v w : SystemView) (p : AgentProcess) → w.asked ≡ [] → Change v w → Contains w.sights.live p
    → Contains v.sights.live p ⊎ Contains (processes_of w) p
lives_back v w p empty change lives = by change
  where
    at : (live : List AgentProcess) → w.sights.live ≡ live → Contains live p
    at live is = subst (λ l. Contains l p) is lives

    by : Change v w → Contains v.sights.live p ⊎ Contains (processes_of w) p
    by (same live given_up spawned) = inl (at _ live)
    by (one_spawned q free live given_up spawned) = ⊎_elim inl
        (λ is. inr (subst (λ l. Contains l p) (sym spawned) (subst (Contains (processes_of v ++ q ∷ [])) is (Contains-push (processes_of v) q))))
        (Contains-push_cases v.sights.live q p (at _ live))
    by (one_asked q live given_up spawned some) = absurd (some empty)
    by (one_ended q lives' live given_up spawned seen) = inl (kept_is_of (λ r. not (r.run == q.run)) v.sights.live p (at _ live))
    by (one_given_up q lives' live given_up spawned) = inl (kept_is_of (λ r. not (r.run == q.run)) v.sights.live p (at _ live))
    by (one_adopted q found live given_up spawned) = inl (at _ live)
    by (one_released index live given_up over spawned) = inl (at _ live)

live_is_spawned : (own : Option Process) (v : SystemView) (p : AgentProcess) → Reaches (unasked own) v → v.asked ≡ [] → Contains v.sights.live p
    → Contains (processes_of v) p
live_is_spawned own _ p none empty lives = absurd (nothing_in p lives)
live_is_spawned own _ p (more m w reached next) empty lives = ⊎_elim
    (λ before. spawned_next m w p (changes m w next) (live_is_spawned own m p reached ((keeps m w next).unasked empty) before))
    (λ spawned. spawned)
    (lives_back m w p empty (changes m w next) lives)

-- what lived lives, was given up, or was seen to have ended
live_next : (v w : SystemView) (p : AgentProcess) → HaveOwnRuns (processes_of v) → ((q : AgentProcess) → Contains v.sights.live q → Contains (processes_of v) q)
    → Change v w → Contains v.sights.live p → Contains (known_in w) p ⊎ WasSeenEnded w p
live_next v w p own_runs spawned_all change lives = by change
  where
    at : (live : List AgentProcess) → w.sights.live ≡ live → Contains live p → Contains (known_in w) p ⊎ WasSeenEnded w p
    at live is so = inl (Contains-append_left w.sights.live (given_up_in w) p (subst (λ l. Contains l p) (sym is) so))

    -- it is of another run, or it is that process
    of_other : (q : AgentProcess) → Contains v.sights.live q → (Contains (without_process q.run v.sights.live) p) ⊎ (q ≡ p)
    of_other q its = ⊎_elim
        (λ is. inr (own_runs q p (spawned_all q its) (spawned_all p lives) (sym is)))
        (λ other. inl (passing_is_kept (λ r. not (r.run == q.run)) v.sights.live p (ap not (ne_eqb p.run q.run other)) lives))
        (cases_eq p.run q.run)

    by : Change v w → Contains (known_in w) p ⊎ WasSeenEnded w p
    by (same live given_up spawned) = at _ live lives
    by (one_spawned q free live given_up spawned) = at _ live (Contains-append_left v.sights.live (q ∷ []) p lives)
    by (one_asked q live given_up spawned some) = at _ live (Contains-append_left v.sights.live (q ∷ []) p lives)
    by (one_ended q its live given_up spawned seen) = ⊎_elim (at _ live) (λ is. inr (subst (WasSeenEnded w) is seen)) (of_other q its)
    by (one_given_up q its live given_up spawned) = ⊎_elim (at _ live)
        (λ is. inl (Contains-append_right w.sights.live (given_up_in w) p
        (subst (λ l. Contains l p) (sym given_up) (subst (Contains (given_up_in v ++ q ∷ [])) is (Contains-push (given_up_in v) q)))))
        (of_other q its)
    by (one_adopted q found live given_up spawned) = at _ live lives
    by (one_released index live given_up over spawned) = at _ live lives

-- what is spawned lives
spawned_back : (v w : SystemView) (p : AgentProcess) → Change v w → Contains (processes_of w) p → Contains (processes_of v) p ⊎ Contains w.sights.live p
spawned_back v w p change has = by change
  where
    at : (ps : List AgentProcess) → processes_of w ≡ ps → Contains ps p
    at ps is = subst (λ l. Contains l p) is has

    by : Change v w → Contains (processes_of v) p ⊎ Contains w.sights.live p
    by (same live given_up spawned) = inl (at _ spawned)
    by (one_spawned q free live given_up spawned) = ⊎_elim inl
        (λ is. inr (subst (λ l. Contains l p) (sym live) (subst (Contains (v.sights.live ++ q ∷ [])) is (Contains-push v.sights.live q))))
        (Contains-push_cases (processes_of v) q p (at _ spawned))
    by (one_asked q live given_up spawned some) = inl (at _ spawned)
    by (one_ended q its live given_up spawned seen) = inl (at _ spawned)
    by (one_given_up q its live given_up spawned) = inl (at _ spawned)
    by (one_adopted q found live given_up spawned) = inl (at _ spawned)
    by (one_released index live given_up over spawned) = inl (at _ spawned)

own_runs_before : (v w : SystemView) → Change v w → HaveOwnRuns (processes_of w) → HaveOwnRuns (processes_of v)
own_runs_before v w change own_runs p q has_p has_q is = own_runs p q (spawned_next v w p change has_p) (spawned_next v w q change has_q) is

pub known_or_over : (own : Option Process) (v : SystemView) (p : AgentProcess) → Reaches (unasked own) v → v.asked ≡ []
    → HaveOwnRuns (processes_of v) → Contains (processes_of v) p → IsKnownOrOver (unasked own) v p
known_or_over own _ p none empty own_runs has = absurd (nothing_in p has)
known_or_over own _ p (more m w reached next) empty own_runs has =
    ⊎_elim
    (λ before. ⊎_elim known (λ rest. inr (⊎_elim
    (λ seen. inl (seen.0, (keeps m w next).polled _ seen.1))
    (λ over. inr (over_on (unasked own) m w p next over)) rest)) (known_or_over own m p reached empty_before own_runs' before))
    (λ lives. inl (Contains-append_left w.sights.live (given_up_in w) p lives))
    (spawned_back m w p change has)
  where
    change : Change m w
    change = changes m w next

    empty_before : m.asked ≡ []
    empty_before = (keeps m w next).unasked empty

    own_runs' : HaveOwnRuns (processes_of m)
    own_runs' = own_runs_before m w change own_runs

    known : Contains (known_in m) p → IsKnownOrOver (unasked own) w p
    known so = ⊎_elim
        (λ lives. ⊎_elim inl (λ seen. inr (inl seen)) (live_next m w p own_runs' (λ q. live_is_spawned own m q reached empty_before) change lives))
        (λ given_up. ⊎_elim (λ kept. inl (Contains-append_right w.sights.live (given_up_in w) p kept))
        (λ over. inr (inr (over_there (unasked own) m w p reached next over)))
        (given_up_next m w p change given_up))
        (Contains-append_cases m.sights.live (given_up_in m) p so)

not_given_up : (v : SystemView) (id : List ℕ) (p : AgentProcess) → IsFree v.sights id → p.id ≡ id → Contains (given_up_in v) p → ⊥
not_given_up v id p free is given_up =
    All-contains (λ q. q.id ≢ id) (given_up_in v) p (All-map (λ q. q.id ≢ id) (λ (u : GivenUp). u.process) v.sights.given_up free.given_up) given_up is

pub given_up_before : (start v w : SystemView) (id : List ℕ) (p : AgentProcess) → Reaches start v → Reaches v w → IsFree w.sights id
    → Contains (given_up_in v) p → p.id ≡ id → WasOver start w p
given_up_before start v w id p before reached free has is =
    ⊎_elim (λ kept. absurd (not_given_up w id p free is kept)) (λ over. over) (given_up_until start v w p before reached has)

pub spawned_before : (own : Option Process) (v : SystemView) (id : List ℕ) (p : AgentProcess) → Reaches (unasked own) v → v.asked ≡ []
    → HaveOwnRuns (processes_of v) → IsFree v.sights id → Contains (processes_of v) p → p.id ≡ id → WasSeenEnded v p ⊎ WasOver (unasked own) v p
spawned_before own v id p reached empty own_runs free has is = ⊎_elim
    (λ known. absurd (⊎_elim
    (λ lives. All-contains (λ q. q.id ≢ id) v.sights.live p free.live lives is)
    (not_given_up v id p free is)
    (Contains-append_cases v.sights.live (given_up_in v) p known)))
    (λ over. over)
    (known_or_over own v p reached empty own_runs has)
