-- Lemmas on the monitors without their due moments.
use Rattle.std.proofs.Common.{◌≡◌, ℕ, ◌+◌, ◌==◌, Bool, true, false, cond, not, List, [], ◌∷◌, map, filter, refl, sym, ap, ◌∙◌}
use Rattle.ocf_model.specs.Resource.{without_interval}
use Rattle.recurring.specs.declared.monitor.Monitor.{Monitor}
use Rattle.recurring.specs.Monitors.{recurs, cancelled, settled, settled_one, restarted, due_at}

-- a function applied to a conditional
pub through_cond : {A B : Type 0} (f : A → B) (b : Bool) (x y : A) → f (cond b x y) ≡ cond b (f x) (f y)
through_cond f true x y = refl
through_cond f false x y = refl

-- a filter of images
pub filter-map : {A B : Type 0} (f : A → B) (test : B → Bool) (xs : List A) → filter test (map f xs) ≡ map f (filter (λ x. test (f x)) xs)
filter-map f test [] = refl
filter-map f test (x ∷ xs) =
    ap (λ ys. cond (test (f x)) (f x ∷ ys) ys) (filter-map f test xs)
    ∙ sym (through_cond (map f) (test (f x)) (x ∷ filter (λ y. test (f y)) xs) (filter (λ y. test (f y)) xs))

-- the monitors without due moments, after a cancel, a settlement and a restart
pub recurs-cancelled : (interval : ℕ) (ms : List Monitor) → recurs (cancelled interval ms) ≡ without_interval interval (recurs ms)
recurs-cancelled interval ms = sym (filter-map (λ m. m.recur) (λ m. not (m.interval == interval)) ms)

-- a conditional with equal branches
pub cond-same : {A : Type 0} (b : Bool) (x : A) → cond b x x ≡ x
cond-same true x = refl
cond-same false x = refl

pub recur-settled_one : (call at : ℕ) (m : Monitor) → (settled_one call at m).recur ≡ m.recur
recur-settled_one call at m =
    through_cond (λ n. n.recur) (m.recur.call == call) (due_at (at + m.recur.interval) m) m ∙ cond-same (m.recur.call == call) m.recur

pub recurs-settled : (call at : ℕ) (ms : List Monitor) → recurs (settled call at ms) ≡ recurs ms
recurs-settled call at [] = refl
recurs-settled call at (m ∷ ms) = cc (recur-settled_one call at m, recurs-settled call at ms)

pub recurs-restarted : (at : ℕ) (ms : List Monitor) → recurs (restarted at ms) ≡ recurs ms
recurs-restarted at [] = refl
recurs-restarted at (m ∷ ms) = ap (λ xs. m.recur ∷ xs) (recurs-restarted at ms)
