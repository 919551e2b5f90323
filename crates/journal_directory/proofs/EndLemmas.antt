-- The ends of a program that is asked for the journal of a directory.
use Rattle.std.proofs.Common.{inl, inr, ap, ⊎_elim, ◌⊎◌, Result, Err, subst, sym, ◌≡◌}
use Rattle.exec_faults.specs.Faults.{IsRunEnd}
use Rattle.exec_faults.specs.declared.fault.Fault.{Fault}
use Rattle.exec_faults.specs.declared.fault.Fault.TheVariants as fault
use Rattle.journal_files.specs.Ends.{IsDirectoryEnd}

-- the ends with a journal that was opened, with one that was not, and with a directory that holds none
pub opened_ends : {T : Type 0} (r : Result T Fault) → IsRunEnd r → IsDirectoryEnd r
opened_ends r ends = inl ends

pub not_opened_ends : {T : Type 0} (f : Fault) → (f ≡ fault.Memory) ⊎ ((f ≡ fault.NotOpened) ⊎ (f ≡ fault.NotExisting))
    → IsDirectoryEnd {T = T} (Err f)
not_opened_ends {T} f =
    ⊎_elim (λ is. inl (subst (λ x. IsRunEnd {T = T} (Err x)) (sym is) tt))
    (⊎_elim (λ is. inr (inl (ap Err is))) (λ is. inr (inr (inr (ap Err is)))))

pub not_found_ends : {T : Type 0} (f : Fault)
    → (f ≡ fault.Memory) ⊎ ((f ≡ fault.NotOpened) ⊎ ((f ≡ fault.NoJournal) ⊎ (f ≡ fault.NotExisting)))
    → IsDirectoryEnd {T = T} (Err f)
not_found_ends {T} f =
    ⊎_elim (λ is. inl (subst (λ x. IsRunEnd {T = T} (Err x)) (sym is) tt))
    (⊎_elim (λ is. inr (inl (ap Err is)))
    (⊎_elim (λ is. inr (inr (inl (ap Err is)))) (λ is. inr (inr (inr (ap Err is))))))

-- a journal that was not opened is not printed
pub not_opened_found : (f : Fault) → (f ≡ fault.Memory) ⊎ ((f ≡ fault.NotOpened) ⊎ (f ≡ fault.NotExisting))
    → (f ≡ fault.Memory) ⊎ ((f ≡ fault.NotOpened) ⊎ ((f ≡ fault.NoJournal) ⊎ (f ≡ fault.NotExisting)))
not_opened_found f = ⊎_elim inl (⊎_elim (λ is. inr (inl is)) (λ is. inr (inr (inr is))))
