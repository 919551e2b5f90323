-- The environment with Pacemaker's variables: its order and its members.
use Rattle.std.proofs.Common.{◌≡◌, ◌↔◌, inl, inr, ℕ, Bool, true, false, List, refl, sym, ◌∙◌, ap, subst, codes, decimal}
use Rattle.std.specs.Prelude.{bytes_eq}
use Rattle.std.specs.List.{Contains}
use Rattle.std.proofs.lemmas.Slice.Eq.{bytes_eq-Decides}
use Rattle.ocf_types.specs.Actions.{action_word}
use Rattle.ocf_types.specs.Kinds.{Registration}
use Rattle.ocf_types.specs.Params.{AreParams}
use Rattle.ocf_types.specs.declared.operation.Running.{Running}
use Rattle.ocf_env.specs.Lists.{interval_pair, name_pair, timeout_pair, with_meta, with_new}
use Rattle.ocf_env.specs.MetaVariables.{IsGiven, IsMetaVariable, interval, name, timeout, own, meta}
use Rattle.ocf_env.specs.Locations.{Pair, SiteView}
use Rattle.ocf_env.specs.Variables.{IsVariable, are_ascending, parameter, reskey}
use Rattle.ocf_env.proofs.Amongs.{Among, among, contained}
use Rattle.ocf_env.proofs.NewLemmas.{is_named, named, new_ascends, new_cases, new_here, new_keeps, unnamed}
use Rattle.ocf_env.proofs.OnceLemmas.{one_value}

pub meta_order : (running : Running) (xs : List Pair) → are_ascending xs ≡ true → are_ascending (with_meta running xs) ≡ true
unfolding with_meta
meta_order running xs h =
    let one = with_new (interval_pair running) xs in
    let two = with_new (name_pair running) one in
    new_ascends (timeout_pair running) two (new_ascends (name_pair running) one (new_ascends (interval_pair running) xs h))

-- inserting a pair with another name does not add this name
still_new : (p : Pair) (wanted : List ℕ) (xs : List Pair) → bytes_eq p.0 wanted ≡ false → is_named wanted xs ≡ false
    → is_named wanted (with_new p xs) ≡ false
still_new p wanted xs differ none = by (is_named wanted (with_new p xs)) refl
  where
    by : (b : Bool) → is_named wanted (with_new p xs) ≡ b → is_named wanted (with_new p xs) ≡ false
    by false is = is
    by true is =
        let found = named wanted (with_new p xs) is in
        elim (new_cases p xs (wanted, found.0) found.1) [
          | inl a ↦ absurd (unnamed wanted found.0 xs none a)
          | inr b ↦ absurd (let same : bytes_eq p.0 wanted ≡ true = (bytes_eq-Decides p.0 wanted).1 (ap (λ (x : Pair). x.0) b.0) in
              let never : true ≡ false = sym same ∙ differ in cc)
        ]

-- names that differ
interval_name : (running : Running) → bytes_eq (interval_pair running).0 (name_pair running).0 ≡ false
interval_name running = refl

interval_timeout : (running : Running) → bytes_eq (interval_pair running).0 (timeout_pair running).0 ≡ false
interval_timeout running = refl

name_timeout : (running : Running) → bytes_eq (name_pair running).0 (timeout_pair running).0 ≡ false
name_timeout running = refl

abbrev Are : SiteView → Registration → Running → List Pair → Type 0
Are site r running xs = (n v : List ℕ) → Contains xs (n, v) ↔ IsVariable site r running.task n v

-- a name that no variable has is not in the list
none_named : (site : SiteView) (r : Registration) (running : Running) (xs : List Pair) → Are site r running xs → (n : List ℕ)
    → ((other : List ℕ) → IsVariable site r running.task n other → ⊥) → is_named n xs ≡ false
none_named site r running xs are n none = by (is_named n xs) refl
  where
    by : (b : Bool) → is_named n xs ≡ b → is_named n xs ≡ false
    by false is = is
    by true is = let found = named n xs is in absurd (none found.0 ((are n found.0).0 (contained xs (n, found.0) found.1)))

-- no variable has a name that is not in the list
no_variable : (site : SiteView) (r : Registration) (running : Running) (xs ys : List Pair) → Are site r running xs
    → ((x : Pair) → Among x xs → Among x ys) → (n : List ℕ) → is_named n ys ≡ false → (other : List ℕ)
    → IsVariable site r running.task n other → ⊥
no_variable site r running xs ys are more n none other v =
    unnamed n other ys none (more (n, other) (among xs (n, other) ((are n other).1 v)))

-- one of Pacemaker's variables that was inserted into a longer list is given
put : (site : SiteView) (r : Registration) (running : Running) (xs ys : List Pair) → site.meta ≡ true → Are site r running xs
    → ((x : Pair) → Among x xs → Among x ys) → (p x : Pair) → IsMetaVariable running p.0 p.1 → p ≡ x → is_named p.0 ys ≡ false
    → IsGiven site r running x.0 x.1
put site r running xs ys asked are more p x is same none =
    subst (λ (q : Pair). IsGiven site r running q.0 q.1) same (meta asked is (no_variable site r running xs ys are more p.0 none))

-- each pair of the longer list is given
given_only : (site : SiteView) (r : Registration) (running : Running) (xs : List Pair) → site.meta ≡ true → Are site r running xs → (x : Pair)
    → Among x (with_meta running xs) → IsGiven site r running x.0 x.1
unfolding with_meta
given_only site r running xs asked are x a =
    let one = with_new (interval_pair running) xs in
    let two = with_new (name_pair running) one in
    let in_one : (y : Pair) → Among y xs → Among y one = new_keeps (interval_pair running) xs in
    let in_two : (y : Pair) → Among y xs → Among y two = λ y b. new_keeps (name_pair running) one y (in_one y b) in
    elim (new_cases (timeout_pair running) two x a) [
      | inr t ↦ put site r running xs two asked are in_two (timeout_pair running) x timeout t.0 t.1
      | inl b ↦ elim (new_cases (name_pair running) one x b) [
        | inr t ↦ put site r running xs one asked are in_one (name_pair running) x name t.0 t.1
        | inl d ↦ elim (new_cases (interval_pair running) xs x d) [
          | inr t ↦ put site r running xs xs asked are (λ y h. h) (interval_pair running) x interval t.0 t.1
          | inl e ↦ own ((are x.0 x.1).0 (contained xs x e))
        ]
      ]
    ]

-- each pair that is given is in the longer list
given_each : (site : SiteView) (r : Registration) (running : Running) (xs : List Pair) → Are site r running xs → (n v : List ℕ)
    → IsGiven site r running n v → Among (n, v) (with_meta running xs)
unfolding with_meta
given_each site r running xs are n v (own h) =
    let one = with_new (interval_pair running) xs in
    let two = with_new (name_pair running) one in
    new_keeps (timeout_pair running) two (n, v)
    (new_keeps (name_pair running) one (n, v) (new_keeps (interval_pair running) xs (n, v) (among xs (n, v) ((are n v).1 h))))
given_each site r running xs are n v (meta asked interval none) =
    let one = with_new (interval_pair running) xs in
    let two = with_new (name_pair running) one in
    new_keeps (timeout_pair running) two (interval_pair running)
    (new_keeps (name_pair running) one (interval_pair running)
    (new_here (interval_pair running) xs (none_named site r running xs are (interval_pair running).0 none)))
given_each site r running xs are n v (meta asked name none) =
    let one = with_new (interval_pair running) xs in
    let two = with_new (name_pair running) one in
    new_keeps (timeout_pair running) two (name_pair running)
    (new_here (name_pair running) one
    (still_new (interval_pair running) (name_pair running).0 xs (interval_name running)
    (none_named site r running xs are (name_pair running).0 none)))
given_each site r running xs are n v (meta asked timeout none) =
    let one = with_new (interval_pair running) xs in
    let two = with_new (name_pair running) one in
    new_here (timeout_pair running) two
    (still_new (name_pair running) (timeout_pair running).0 one (name_timeout running)
    (still_new (interval_pair running) (timeout_pair running).0 xs (interval_timeout running)
    (none_named site r running xs are (timeout_pair running).0 none)))

pub meta_members : (site : SiteView) (r : Registration) (running : Running) (xs : List Pair) → site.meta ≡ true
    → ((n v : List ℕ) → Contains xs (n, v) ↔ IsVariable site r running.task n v)
    → (n v : List ℕ) → Contains (with_meta running xs) (n, v) ↔ IsGiven site r running n v
meta_members site r running xs asked are n v = (
  λ h. given_only site r running xs asked are (n, v) (among (with_meta running xs) (n, v) h),
  λ g. contained (with_meta running xs) (n, v) (given_each site r running xs are n v g),
)

-- without Pacemaker's variables
own_only : (site : SiteView) (r : Registration) (running : Running) (n v : List ℕ) → site.meta ≡ false → IsGiven site r running n v
    → IsVariable site r running.task n v
own_only site r running n v unasked (own h) = h
own_only site r running n v unasked (meta asked is none) = absurd (let never : true ≡ false = sym asked ∙ unasked in cc)

pub without : (site : SiteView) (r : Registration) (running : Running) (n v : List ℕ) → site.meta ≡ false
    → IsGiven site r running n v ↔ IsVariable site r running.task n v
without site r running n v unasked = (own_only site r running n v unasked, λ h. own h)

-- each of Pacemaker's variables has one value
meta_once : (running : Running) (n m v w : List ℕ) → IsMetaVariable running n v → IsMetaVariable running m w → bytes_eq n m ≡ true → v ≡ w
meta_once running n m v w interval interval same = refl
meta_once running n m v w interval name same = absurd cc
meta_once running n m v w interval timeout same = absurd cc
meta_once running n m v w name interval same = absurd cc
meta_once running n m v w name name same = refl
meta_once running n m v w name timeout same = absurd cc
meta_once running n m v w timeout interval same = absurd cc
meta_once running n m v w timeout name same = absurd cc
meta_once running n m v w timeout timeout same = refl

pub given_once : (site : SiteView) (r : Registration) (running : Running) (n v w : List ℕ) → AreParams r.params → IsGiven site r running n v
    → IsGiven site r running n w → v ≡ w
given_once site r running n v w lawful (own h) (own k) = one_value site r running.task n v w lawful h k
given_once site r running n v w lawful (own h) (meta asked is none) = absurd (none v h)
given_once site r running n v w lawful (meta asked is none) (own k) = absurd (none w k)
given_once site r running n v w lawful (meta asked is none) (meta _ too _) = meta_once running n n v w is too ((bytes_eq-Decides n n).1 refl)

-- a parameter has its own value
pub param_wins : (site : SiteView) (r : Registration) (running : Running) (n mine value : List ℕ) → AreParams r.params
    → Contains r.params (n, mine) → IsGiven site r running (reskey n) value → value ≡ mine
param_wins site r running n mine value lawful there given =
    given_once site r running (reskey n) value mine lawful given (own (parameter there))

-- the three insertions, one after another
pub all_added : (running : Running) (xs one two three : List Pair) (i n t : List ℕ) → i ≡ decimal running.interval
    → n ≡ action_word running.task.action → t ≡ decimal running.timeout
    → one ≡ with_new (codes "OCF_RESKEY_CRM_meta_interval", i) xs → two ≡ with_new (codes "OCF_RESKEY_CRM_meta_name", n) one
    → three ≡ with_new (codes "OCF_RESKEY_CRM_meta_timeout", t) two → three ≡ with_meta running xs
unfolding with_meta
all_added running xs one two three i n t i_is n_is t_is a b c = rw (c, b, a, i_is, n_is, t_is) refl
