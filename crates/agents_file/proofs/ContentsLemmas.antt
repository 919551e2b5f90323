-- The entries in the bytes of the file.
use Rattle.std.proofs.Common.{◌≡◌, ◌≢◌, ◌⊎◌, ◌∙◌, ℕ, ◌+◌, ◌<◌, List, [], ◌∷◌, ◌++◌, map, inl, inr, ap, sym, subst, arith}
use Rattle.std.specs.Prelude.{Contains}
use Rattle.std.proofs.Math.Nat.{eq-or-lt_of_le}
use Rattle.std.proofs.lemmas.List.{map_push}
use Rattle.std.proofs.lemmas.List.Elements.{All-nil, All-push, Contains-append_left, Contains-push}
use Rattle.agents_file.specs.Contents.{AreKept, slot_line}
use Rattle.agents_file.specs.Entries.{IsEntry, entry_line}
use Rattle.agents_file.specs.declared.contents.Kept.{Kept}
use Rattle.agents_file.specs.declared.entry.AgentEntry.{AgentEntry}

-- no slot was looked at
pub kept_none : (bytes : List ℕ) → AreKept 0 bytes []
kept_none bytes = record {
  each = All-nil (λ k. slot_line k.slot bytes ≡ entry_line k.entry);
  all = λ slot e low. absurd (omega (arith, low));
}

-- the slots below the next one
below : (n slot : ℕ) → slot < n + 1 → (slot ≡ n) ⊎ (slot < n)
below n slot low = eq-or-lt_of_le (omega (arith, low))

-- the next slot has an entry
pub kept_more : (n : ℕ) (bytes : List ℕ) (kept : List Kept) (k : Kept) → AreKept n bytes kept → k.slot ≡ n
    → slot_line n bytes ≡ entry_line k.entry → AreKept (n + 1) bytes (kept ++ k ∷ [])
kept_more n bytes kept k h at line = record {
  each =
      All-push (λ k. slot_line k.slot bytes ≡ entry_line k.entry) kept k h.each
      (ap (λ slot. slot_line slot bytes) at ∙ line);
  all = λ slot e low is same. subst (λ l. Contains l slot) (sym (map_push (λ k. k.slot) kept k)) (elim (below n slot low) [
    | inl last ↦
        subst (λ x. Contains (map (λ k. k.slot) kept ++ k.slot ∷ []) x) (at ∙ sym last)
        (Contains-push (map (λ k. k.slot) kept) k.slot)
    | inr less ↦ Contains-append_left (map (λ k. k.slot) kept) (k.slot ∷ []) slot (h.all slot e less is same)
  ]);
}

-- the next slot has none
pub kept_same : (n : ℕ) (bytes : List ℕ) (kept : List Kept) → AreKept n bytes kept
    → ((e : AgentEntry) → IsEntry e → slot_line n bytes ≢ entry_line e) → AreKept (n + 1) bytes kept
kept_same n bytes kept h none = record {
  each = h.each;
  all = λ slot e low is same. elim (below n slot low) [
    | inl last ↦ absurd (none e is (subst (λ s. slot_line s bytes ≡ entry_line e) last same))
    | inr less ↦ h.all slot e less is same
  ];
}
