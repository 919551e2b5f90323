-- Whether one of the pairs is due, by the least moment of them.
use Rattle.std.proofs.Common.{◌≡◌, ℕ, ◌≤◌, List, Some, None, IsTrue, false, leb, length, ap, arith, ◌↔◌}
use Rattle.std.specs.List.{Any}
use Rattle.std.proofs.lemmas.Bool.{false≢true, leb-true, le-leb}
use Rattle.recurring.specs.Monitors.{IsFirstMoment}

pub any_none : (ps : List (ℕ × ℕ)) (now : ℕ) → IsFirstMoment ps None → IsTrue false ↔ Any (λ p. p.0 ≤ now) ps
any_none ps now none = (λ t. absurd (false≢true t), λ any. absurd (omega (arith, any.2, ap length none)))

pub any_first : (ps : List (ℕ × ℕ)) (due at now : ℕ) → at ≡ now → IsFirstMoment ps (Some due) → IsTrue (leb due at) ↔ Any (λ p. p.0 ≤ now) ps
any_first ps due at now same h = (
  λ t. (h.1.0, (due, h.0), h.1.1, h.1.2, omega (arith, leb-true due at t, same)),
  λ any. let least : due ≤ any.1.0 = rw any.3 at (h.2 any.0 any.1 any.2) in le-leb due at (omega (arith, least, any.4, same)),
)
