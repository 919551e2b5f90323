-- The search for what belongs to actions: it begins with the roots, and takes the children of one process after another.
use Rattle.std.proofs.Common.{◌≡◌, ◌⊎◌, inl, inr, ⊎_elim, ℕ, ◌+◌, ◌-◌, ◌<◌, ◌≤◌, ◌==◌, Bool, true, false, cond, not, List, [], ◌∷◌, ◌++◌, length, take, get_or, Contains, refl, sym, ap, subst, ◌∙◌, arith, append-nil, append_assoc, length-append}
use Rattle.std.specs.List.{filter}
use Rattle.std.proofs.lemmas.Bool.{cases_eq, eqb-true, eq-eqb, ne_eqb}
use Rattle.std.proofs.lemmas.List.{take_all, take_more, take-append-le}
use Rattle.std.proofs.lemmas.List.Elements.{All-contains, All-contains_itself, All-filter, Contains-append_cases, Contains-append_left, Contains-append_right, Contains-push_cases, filter_passes}
use Rattle.std.proofs.lemmas.List.Filters.{length-filter_both}
use Rattle.proc_files.specs.Belongings.{Belongs, IsParted, IsRoot, root, child, children_of, without_children_of}
use Rattle.proc_files.specs.declared.process.Process.{Process}

module _ {X : Type 0} where
  nothing_in : (x : X) → Contains [] x → ⊥
  nothing_in x has = omega (arith, has.1)

  same_alone : (y x : X) → Contains (y ∷ []) x → y ≡ x
  same_alone y x has = ⊎_elim (λ none. absurd (nothing_in x none)) (λ same. same) (Contains-push_cases [] y x has)

  -- a filter keeps the elements that pass the test
  module _ (test : X → Bool) where
    kept_is_of : (xs : List X) (x : X) → Contains (filter test xs) x → Contains xs x
    kept_is_of xs x = All-contains (Contains xs) (filter test xs) x (All-filter test (Contains xs) xs (All-contains_itself xs))

    kept_passes : (xs : List X) (x : X) → Contains (filter test xs) x → test x ≡ true
    kept_passes xs x = All-contains (λ y. test y ≡ true) (filter test xs) x (filter_passes test xs)

    passing_is_kept : (xs : List X) (x : X) → test x ≡ true → Contains xs x → Contains (filter test xs) x
    passing_is_kept [] x passes has = has
    passing_is_kept (y ∷ ys) x passes has = ⊎_elim
        (λ here. rw (ap test (same_alone y x here) ∙ passes) (Contains-append_left (y ∷ []) (filter test ys) x here))
        (λ there. by (test y) (passing_is_kept ys x passes there))
        (Contains-append_cases (y ∷ []) ys x has)
      where
        by : (b : Bool) → Contains (filter test ys) x → Contains (cond b (y ∷ filter test ys) (filter test ys)) x
        by true kept = Contains-append_right (y ∷ []) (filter test ys) x kept
        by false kept = kept

-- the children of a process and the others are together the rest
child_is_of : (pid : ℕ) (rest : List Process) (p : Process) → Contains (children_of pid rest) p
    → Contains rest p × (p.parent ≡ pid)
child_is_of pid rest p has =
    let test : Process → Bool = λ q. q.parent == pid in
    (kept_is_of test rest p has, eqb-true p.parent pid (kept_passes test rest p has))

is_child : (pid : ℕ) (rest : List Process) (p : Process) → p.parent ≡ pid → Contains rest p → Contains (children_of pid rest) p
is_child pid rest p is has = passing_is_kept (λ q. q.parent == pid) rest p (eq-eqb p.parent pid is) has

child_or_other : (pid : ℕ) (rest : List Process) (p : Process) → Contains rest p
    → Contains (children_of pid rest) p ⊎ Contains (without_children_of pid rest) p
child_or_other pid rest p has = ⊎_elim
    (λ is. inl (is_child pid rest p is has))
    (λ other. inr (passing_is_kept (λ q. not (q.parent == pid)) rest p (ap not (ne_eqb p.parent pid other)) has))
    (cases_eq p.parent pid)

length-both : (pid : ℕ) (found rest : List Process)
    → length (found ++ children_of pid rest) + length (without_children_of pid rest) ≡ length found + length rest
length-both pid found rest = omega (
  arith,
  length-append found (children_of pid rest),
  length-filter_both (λ p. p.parent == pid) (λ p. not (p.parent == pid)) (λ p. refl) rest,
)

-- a step lessens what is left to search, however many processes it finds
pub is_nearer : (at pid : ℕ) (found rest more left : List Process) → at < length found → more ≡ found ++ children_of pid rest
    → left ≡ without_children_of pid rest → length left + (length more - (at + 1)) < length rest + (length found - at)
is_nearer at pid found rest more left within is_more is_left =
    omega (arith, ap length is_more, ap length is_left, length-append found (children_of pid rest), length-both pid found rest)

module _ (known : List Process) (groups : List ℕ) where
  -- a root, or another process, is the last of the table
  pub no_table : IsParted [] known groups [] []
  no_table = record {
    root = λ p none. absurd (nothing_in p none);
    other = λ p none. absurd (nothing_in p none);
    each = λ p none. absurd (nothing_in p none);
    count = refl;
  }

  and_root : (table roots others : List Process) (p : Process) → IsRoot known groups p → IsParted table known groups roots others
      → IsParted (table ++ p ∷ []) known groups (roots ++ p ∷ []) others
  and_root table roots others p is parted = record {
    root = λ q has. ⊎_elim
        (λ before. let old = parted.root q before in (Contains-append_left table (p ∷ []) q old.0, old.1))
        (λ same. (
          subst (Contains (table ++ p ∷ [])) same (Contains-append_right table (p ∷ []) p (0, omega arith, refl)),
          subst (IsRoot known groups) same is,
        ))
        (Contains-push_cases roots p q has);
    other = λ q has. let old = parted.other q has in (Contains-append_left table (p ∷ []) q old.0, old.1);
    each = λ q has. ⊎_elim
        (λ before. ⊎_elim
        (λ first. inl (Contains-append_left roots (p ∷ []) q first)) (λ other. inr other) (parted.each q before))
        (λ same. inl (subst (Contains (roots ++ p ∷ [])) same (Contains-append_right roots (p ∷ []) p (0, omega arith, refl))))
        (Contains-push_cases table p q has);
    count = omega (arith, length-append roots (p ∷ []), length-append table (p ∷ []), parted.count);
  }

  and_other : (table roots others : List Process) (p : Process) → ¬ (IsRoot known groups p)
      → IsParted table known groups roots others → IsParted (table ++ p ∷ []) known groups roots (others ++ p ∷ [])
  and_other table roots others p is parted = record {
    root = λ q has. let old = parted.root q has in (Contains-append_left table (p ∷ []) q old.0, old.1);
    other = λ q has. ⊎_elim
        (λ before. let old = parted.other q before in (Contains-append_left table (p ∷ []) q old.0, old.1))
        (λ same. (
          subst (Contains (table ++ p ∷ [])) same (Contains-append_right table (p ∷ []) p (0, omega arith, refl)),
          subst (λ r. IsRoot known groups r → ⊥) same is,
        ))
        (Contains-push_cases others p q has);
    each = λ q has. ⊎_elim
        (λ before. ⊎_elim
        (λ first. inl first) (λ other. inr (Contains-append_left others (p ∷ []) q other)) (parted.each q before))
        (λ same. inr (subst (Contains (others ++ p ∷ [])) same (Contains-append_right others (p ∷ []) p (0, omega arith, refl))))
        (Contains-push_cases table p q has);
    count = omega (arith, length-append others (p ∷ []), length-append table (p ∷ []), parted.count);
  }

  -- the next process of a table is a root, or another process
  pub next_root : (table roots others : List Process) (i : ℕ) (d : Process) → i < length table → IsRoot known groups (get_or table i d)
      → IsParted (take i table) known groups roots others
      → IsParted (take (i + 1) table) known groups (roots ++ get_or table i d ∷ []) others
  next_root table roots others i d within is parted =
      rw (take_more table i d within) (and_root (take i table) roots others (get_or table i d) is parted)

  pub next_other : (table roots others : List Process) (i : ℕ) (d : Process) → i < length table → ¬ (IsRoot known groups (get_or table i d))
      → IsParted (take i table) known groups roots others
      → IsParted (take (i + 1) table) known groups roots (others ++ get_or table i d ∷ [])
  next_other table roots others i d within is parted =
      rw (take_more table i d within) (and_other (take i table) roots others (get_or table i d) is parted)

  module _ (table : List Process) where
    abbrev Belonging : Process → Type 0
    Belonging = Belongs table known groups

    -- the search has come to `at`: all children of the processes before it are found
    pub record IsSearchedTo (at : ℕ) (found rest : List Process) : Type 0 where
      pub belong : (p : Process) → Contains found p → Belonging p
      pub of_table : (p : Process) → Contains rest p → Contains table p
      pub somewhere : (p : Process) → Contains table p → Contains found p ⊎ Contains rest p
      pub roots : (p : Process) → Contains table p → IsRoot known groups p → Contains found p
      pub children : (p parent : Process) → Contains table p → p.parent ≡ parent.pid → Contains (take at found) parent
          → Contains found p
      pub few : length found + length rest ≡ length table

    pub search_begins : (roots others : List Process) → IsParted table known groups roots others → IsSearchedTo 0 roots others
    search_begins roots others parted = record {
      belong = λ p has. let r = parted.root p has in root p r.0 r.1;
      of_table = λ p has. (parted.other p has).0;
      somewhere = parted.each;
      roots = λ p listed is. ⊎_elim (λ found. found) (λ other. absurd ((parted.other p other).1 is)) (parted.each p listed);
      children = λ p parent listed is none. absurd (nothing_in parent none);
      few = parted.count;
    }

    pub search_goes_on : (at : ℕ) (found rest : List Process) (here : Process) → at < length found → here ≡ get_or found at here
        → IsSearchedTo at found rest → IsSearchedTo (at + 1) (found ++ children_of here.pid rest) (without_children_of here.pid rest)
    search_goes_on at found rest here within is_here s =
        let more = children_of here.pid rest in
        let old : (p : Process) → Contains found p → Contains (found ++ more) p = λ p has. Contains-append_left found more p has in
        let new : (p : Process) → Contains more p → Contains (found ++ more) p = λ p has. Contains-append_right found more p has in
        let searched : take (at + 1) (found ++ more) ≡ take at found ++ here ∷ [] =
        take-append-le (at + 1) found more (omega (arith, within)) ∙ take_more found at here within
        ∙ ap (λ (p : Process). take at found ++ p ∷ []) (sym is_here) in
        record {
          belong = λ p has. ⊎_elim (s.belong p)
              (λ added. let q = child_is_of here.pid rest p added in
              child p here (s.of_table p q.0) q.1 (s.belong here (at, within, sym is_here)))
              (Contains-append_cases found more p has);
          of_table = λ p has. s.of_table p (kept_is_of _ rest p has);
          somewhere = λ p listed. ⊎_elim (λ has. inl (old p has))
              (λ left. ⊎_elim (λ has. inl (new p has)) (λ other. inr other) (child_or_other here.pid rest p left))
              (s.somewhere p listed);
          roots = λ p listed is. old p (s.roots p listed is);
          children = λ p parent listed is reached. ⊎_elim
              (λ earlier. old p (s.children p parent listed is earlier))
              (λ same. ⊎_elim (old p)
              (λ left. new p (is_child here.pid rest p (is ∙ ap (λ (q : Process). q.pid) (sym same)) left))
              (s.somewhere p listed))
              (Contains-push_cases (take at found) here parent (subst (λ (l : List Process). Contains l parent) searched reached));
          few = length-both here.pid found rest ∙ s.few;
        }

    -- at its end the search has found all that belongs to the actions
    pub all_found : (at : ℕ) (found rest : List Process) → length found ≤ at → IsSearchedTo at found rest
        → (p : Process) → Belonging p → Contains found p
    all_found at found rest end s p (root _ listed is) = s.roots p listed is
    all_found at found rest end s p (child _ parent listed is belongs) =
        s.children p parent listed is (rw (take_all at found end) (all_found at found rest end s parent belongs))
