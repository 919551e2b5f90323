-- When what was given up is over.
use Rattle.std.specs.Prelude.{◌≡◌, ◌⊎◌, ◌==◌, ◌<◌, ◌+◌, ℕ, Bool, true, false, List, [], ◌∷◌, Option, Some, None, Result, Ok, Err, OnOk, All, Contains, cond, get_or, is_some, length, not, take}
use Rattle.std.specs.List.{list_any}
use Rattle.std.proofs.Common.{ap, arith, eq-eqb, inl, inr, refl, subst, sym, ◌∙◌}
use Rattle.std.proofs.lemmas.Bool.{eqb-true}
use Rattle.std.proofs.lemmas.List.Elements.{All-more, All-take, Contains-get_or}
use Rattle.agent_system.specs.May.{AreAll, HasNoMember, IsEnded, IsGroupEmpty, IsOver, groups_in, is_other}
use Rattle.agent_system.specs.Sights.{GivenUp, HasEnded, Look, Sights, latest}
use Rattle.agent_system.specs.SystemView.{SystemView, after_members, answer_of}
use Rattle.proc_files.specs.Belongings.{root}
use Rattle.proc_files.specs.declared.process.Process.{Process}
use Rattle.process_ends.specs.Endings.{AreEnded, IsEndAsked, IsGroupOver, IsSearched, given_up_of}
use Rattle.process_ends.specs.declared.given_up.GivenUpAction.{GivenUpAction}

-- after a look, the newest answer about its number is that one, and those about other numbers are as before
latest_looked : (looks : List Look) (pid n : ℕ) (answer : Option (Option Process)) (t : Bool) → (pid == n) ≡ t
    → latest (record { pid = pid; answer = answer } ∷ looks) n ≡ cond t (Some answer) (latest looks n)
latest_looked looks pid n answer t is = ap (λ b. cond b (Some answer) (latest looks n)) is

-- an answer that shows the end of the process with a number
ended_here : (looks : List Look) (pid n : ℕ) (answer : Option (Option Process)) (start : Option ℕ) → n ≡ pid → HasEnded start answer
    → IsEnded start (latest (record { pid = pid; answer = answer } ∷ looks) n)
ended_here looks pid n answer start same ended =
    subst (IsEnded start) (sym (latest_looked looks pid n answer true (eq-eqb pid n (sym same)))) ended

-- what had ended before a look has ended after it, if the answer does not speak against that
ended_still : (looks : List Look) (pid n : ℕ) (answer : Option (Option Process)) (start : Option ℕ)
    → (n ≡ pid → HasEnded start answer) → IsEnded start (latest looks n)
    → IsEnded start (latest (record { pid = pid; answer = answer } ∷ looks) n)
ended_still looks pid n answer start now before = by (pid == n) refl
  where
    by : (t : Bool) → (pid == n) ≡ t → IsEnded start (latest (record { pid = pid; answer = answer } ∷ looks) n)
    by true is = ended_here looks pid n answer start (sym (eqb-true pid n is)) (now (sym (eqb-true pid n is)))
    by false is = subst (IsEnded start) (sym (latest_looked looks pid n answer false is)) before

-- the same of several processes
are_ended_still : (looks : List Look) (pid : ℕ) (answer : Option (Option Process)) (known : List Process)
    → All (λ q. q.pid ≡ pid → HasEnded (Some q.start) answer) known → AreEnded looks known
    → AreEnded (record { pid = pid; answer = answer } ∷ looks) known
are_ended_still looks pid answer known now before = λ k d within.
    ended_still looks pid (get_or known k d).pid answer (Some (get_or known k d).start) (now k d within) (before k d within)

-- after an answer that shows the end of each process that had a number
pub asked_still : (v w : SystemView) (u : GivenUp) (pid n : ℕ) → IsEndAsked v w u pid true → AreEnded v.sights.looks (take n u.known)
    → AreEnded w.sights.looks (take n u.known)
asked_still v w u pid n asked before =
    subst (λ x. AreEnded x.sights.looks (take n u.known)) (sym asked.looked) (are_ended_still v.sights.looks pid (answer_of asked.answer)
    (take n u.known) (All-take (λ q. q.pid ≡ pid → HasEnded (Some q.start) (answer_of asked.answer)) n u.known (asked.known refl)) before)

pub all_asked_still : (v w : SystemView) (u : GivenUp) (pid : ℕ) → IsEndAsked v w u pid true → AreEnded v.sights.looks u.known
    → AreEnded w.sights.looks u.known
all_asked_still v w u pid asked before =
    subst (λ x. AreEnded x.sights.looks u.known) (sym asked.looked) (are_ended_still v.sights.looks pid (answer_of asked.answer) u.known
    (asked.known refl) before)

pub asked_one : (v w : SystemView) (u : GivenUp) (pid : ℕ) (i : ℕ) (d : Process) → IsEndAsked v w u pid true
    → i < length u.known → (get_or u.known i d).pid ≡ pid
    → IsEnded (Some (get_or u.known i d).start) (latest w.sights.looks (get_or u.known i d).pid)
asked_one v w u pid i d asked within same =
    subst (λ x. IsEnded (Some (get_or u.known i d).start) (latest x.sights.looks (get_or u.known i d).pid)) (sym asked.looked)
    (ended_here v.sights.looks pid (get_or u.known i d).pid (answer_of asked.answer) (Some (get_or u.known i d).start) same
    (asked.known refl i d within same))

pub asked_agent : (v w : SystemView) (u : GivenUp) → IsEndAsked v w u u.process.pid true
    → IsEnded u.process.start (latest w.sights.looks u.process.pid)
asked_agent v w u asked =
    subst (λ x. IsEnded u.process.start (latest x.sights.looks u.process.pid)) (sym asked.looked)
    (ended_here v.sights.looks u.process.pid u.process.pid (answer_of asked.answer) u.process.start refl (asked.agent refl refl))

-- an answer about a group changes nothing of what was given up
pub members_given_up : (v w : SystemView) (group : ℕ) (r : Option Bool) → w ≡ after_members v group r
    → w.sights.given_up ≡ v.sights.given_up
members_given_up v w group r e = ap (λ x. x.sights.given_up) e ∙ of r
  where
    of : (r : Option Bool) → (after_members v group r).sights.given_up ≡ v.sights.given_up
    of (Some false) = refl
    of (Some true) = refl
    of None = refl

-- where nothing belongs to what was given up, its group has no member
pub no_member : (u : GivenUp) (table : List Process) → AreAll u table [] → HasNoMember u table
no_member u table all = by (list_any (is_other u) table) refl
  where
    in_groups : list_any (is_other u) table ≡ false → (group : ℕ) → group ≡ u.process.pid → Contains (groups_in u table) group
    in_groups is group same =
        subst (λ t. Contains (cond t [] (u.process.pid ∷ [])) group) (sym is) (0, omega arith, sym same)

    ended : list_any (is_other u) table ≡ false → (p : Process) → Contains table p → p.group ≡ u.process.pid → (b : Bool) → p.has_ended ≡ b
        → p.has_ended ≡ true
    ended is p has member true e = e
    ended is p has member false e = absurd (let none : Contains [] p =
        (all p).1 (root p has (inr (in_groups is p.group member)), e) in omega (arith, none.1))

    by : (t : Bool) → list_any (is_other u) table ≡ t → HasNoMember u table
    by true is = inl is
    by false is = inr (λ k d within member. ended is (get_or table k d) (Contains-get_or table k d within) member _ refl)

-- the same of what was given up when other processes are known
same_but_known : {T C A : Type 0} (a b : GivenUpAction T C A) → b.process ≡ a.process → b.child ≡ a.child
    → given_up_of b ≡ record (given_up_of a) { known = b.known.items }
same_but_known a b process child =
    ap (λ p. record { process = p; is_child = is_some b.child; known = b.known.items }) process
    ∙ ap (λ o. record { process = a.process; is_child = is_some o; known = b.known.items }) child

-- a list of which a test says that it is empty
pub empty_is_nil : {X : Type 0} (xs : List X) (n : ℕ) (b : Bool) → length xs ≡ n → b ≡ (n == 0) → not b ≡ false → xs ≡ []
empty_is_nil [] n b size is none = refl
empty_is_nil (x ∷ xs) n b size is none = by b refl
  where
    by : (t : Bool) → b ≡ t → x ∷ xs ≡ []
    by true e = absurd (let zero_is : n ≡ 0 = eqb-true n 0 (sym is ∙ e) in omega (arith, size, zero_is))
    by false e = absurd (let never : not false ≡ false = ap not (sym e) ∙ none in cc)

-- the group is empty where an exact search finds nothing
pub found_none : {T C A : Type 0} (s : Sights) (a b : GivenUpAction T C A) (table : List Process) → b.process ≡ a.process → b.child ≡ a.child
    → s.table ≡ Some table → AreAll (given_up_of a) table b.known.items → b.known.items ≡ []
    → IsGroupOver s (given_up_of a) (given_up_of b)
found_none s a b table process child listed all none = record {
  empty = subst (IsGroupEmpty s) (sym (same_but_known a b process child))
      (inr (inr (table, listed, no_member (given_up_of a) table (subst (AreAll (given_up_of a) table) none all))));
  known = inr none;
}

-- an action is over, when its agent and all known processes have ended and its group is empty
pub is_over : {T C A : Type 0} (s t : Sights) (a b : GivenUpAction T C A) → b.process ≡ a.process → b.child ≡ a.child
    → t.looks ≡ s.looks → is_some a.child ≡ false → IsEnded a.process.start (latest s.looks a.process.pid)
    → AreEnded s.looks a.known.items → IsGroupOver t (given_up_of a) (given_up_of b) → IsOver t (given_up_of b)
is_over s t a b process child looks reaped agent known over = record {
  reaped = ap is_some child ∙ reaped;
  agent = subst (λ p. IsEnded p.start (latest t.looks p.pid)) (sym process)
      (subst (λ l. IsEnded a.process.start (latest l a.process.pid)) (sym looks) agent);
  group = over.empty;
  known = of over.known;
}
  where
    of : (b.known.items ≡ a.known.items) ⊎ (b.known.items ≡ []) → AreEnded t.looks b.known.items
    of (inl same) = subst (AreEnded t.looks) (sym same) (subst (λ l. AreEnded l a.known.items) (sym looks) known)
    of (inr none) = subst (AreEnded t.looks) (sym none) (λ k d within. absurd (omega (arith, within)))

-- one more process has ended, and those before it have
pub ended_more : (v w : SystemView) (u : GivenUp) (known : List Process) (i : ℕ) (d : Process) (ended : Bool)
    → known ≡ u.known → IsEndAsked v w u (get_or known i d).pid ended → ended ≡ true → i < length known
    → AreEnded v.sights.looks (take i known) → AreEnded w.sights.looks (take (i + 1) known)
ended_more v w u known i d ended known_is asked is within before =
    All-more (λ q. IsEnded (Some q.start) (latest w.sights.looks q.pid)) known i d within
    (subst (λ k. AreEnded w.sights.looks (take i k)) (sym known_is) (asked_still v w u (get_or known i d).pid i asked_true
    (subst (λ k. AreEnded v.sights.looks (take i k)) known_is before)))
    (subst (λ k. IsEnded (Some (get_or k i d).start) (latest w.sights.looks (get_or k i d).pid)) (sym known_is)
    (asked_one v w u (get_or known i d).pid i d asked_true (subst (λ k. i < length k) known_is within)
    (ap (λ k. (get_or k i d).pid) (sym known_is))))
  where
    asked_true : IsEndAsked v w u (get_or known i d).pid true
    asked_true = subst (IsEndAsked v w u (get_or known i d).pid) is asked

-- an exact search of the last listing
pub is_searched : {T C A : Type 0} (listed : Option (List Process)) (a b : GivenUpAction T C A) (table : List Process)
    → b.process ≡ a.process → b.child ≡ a.child → listed ≡ Some table → AreAll (given_up_of a) table b.known.items
    → IsSearched listed (given_up_of b)
is_searched listed a b table process child is all =
    (table, a.known.items, is, subst (λ u. AreAll u table b.known.items) (same_but_known b a (sym process) (sym child)) all)

-- what holds whatever a result is
pub always_ok : {X E P : Type 0} (r : Result X E) → P → OnOk r P
always_ok (Ok x) h = h
always_ok (Err e) h = tt
