-- One action of each resource has processes at a time.
use Rattle.std.specs.Prelude.{◌≡◌, ◌≢◌, ◌⊎◌, ℕ, zero, suc, List, [], ◌∷◌, Contains, Option}
use Rattle.std.proofs.Common.{arith, inl, inr, subst, sym, ⊎_elim, ◌∙◌}
use Rattle.std.proofs.lemmas.List.Elements.{All-contains}
use Rattle.agent_system.specs.Histories.{AllPairs, AreApart, HaveOwnRuns, IsFound, IsHistory, IsKnownOrOver, Reaches, known_in, processes_of}
use Rattle.agent_system.specs.SystemView.{SystemView, unasked}
use Rattle.agent_system.specs.declared.agent_process.AgentProcess.{AgentProcess}
use Rattle.child_keeper.specs.Keepers.{AreNumbered}
use Rattle.child_keeper.specs.Processes.{RunOneAtATime}
use Rattle.proc_files.specs.declared.process.Process.{Process}

-- two elements of a list with a relation at each pair, one after the other
pair_of : {X : Type 0} (R : X → X → Type 0) (xs : List X) (p q : X) → AllPairs R xs → Contains xs p → Contains xs q → q ≢ p → R p q ⊎ R q p
pair_of R [] p q pairs (k, within, e) hq other = absurd (omega (arith, within))
pair_of R (x ∷ xs) p q pairs (zero, within, e) (zero, within', e') other = absurd (other (sym e' ∙ e))
pair_of R (x ∷ xs) p q pairs (zero, within, e) (suc k, within', e') other =
    inl (subst (λ y. R y q) e (All-contains (R x) xs q pairs.0 (k, omega (arith, within'), e')))
pair_of R (x ∷ xs) p q pairs (suc k, within, e) (zero, within', e') other =
    inr (subst (λ y. R y p) e' (All-contains (R x) xs p pairs.0 (k, omega (arith, within), e)))
pair_of R (x ∷ xs) p q pairs (suc k, within, e) (suc n, within', e') other =
    pair_of R xs p q pairs.1 (k, omega (arith, within), e) (n, omega (arith, within'), e') other

-- two processes of one resource that were not found in the record are not apart
not_apart : (v : SystemView) (p q : AgentProcess) → p.id ≡ q.id → ¬ (IsFound v p) → ¬ (IsFound v q) → AreApart v p q → ⊥
not_apart v p q same new_p new_q apart = ⊎_elim (λ other. other same) (λ found. ⊎_elim new_p new_q found) apart

module _ (v : SystemView) (last : ℕ) (history : IsHistory v) (numbered : AreNumbered v last)
    (law_apart : (own : Option Process) (v : SystemView) → Reaches (unasked own) v → v.asked ≡ [] → AllPairs (AreApart v) (known_in v))
    (law_over : (own : Option Process) (v : SystemView) (p : AgentProcess) → Reaches (unasked own) v → v.asked ≡ []
    → HaveOwnRuns (processes_of v) → Contains (processes_of v) p → IsKnownOrOver (unasked own) v p) where
  apart : AllPairs (AreApart v) (known_in v)
  apart = law_apart v.sights.own v history numbered.unasked

  over : (p : AgentProcess) → Contains (processes_of v) p → IsKnownOrOver (unasked v.sights.own) v p
  over p has = law_over v.sights.own v p history numbered.unasked numbered.distinct has

  pub one_at_a_time : RunOneAtATime v
  one_at_a_time = record {
    apart = apart;
    over = over;
    one = λ p q known has same other new_p new_q. ⊎_elim
        (λ also. absurd (⊎_elim (not_apart v p q (sym same) new_p new_q) (not_apart v q p same new_q new_p)
        (pair_of (AreApart v) (known_in v) p q apart known also other)))
        (λ ended. ended)
        (over q has);
  }
