-- The entries in the bytes of the file.
use Rattle.std.specs.Prelude.{◌≡◌, ℕ, ◌+◌, ◌*◌, ◌<◌, List, All, Contains, drop, map, take}
use Rattle.agents_file.specs.Entries.{IsEntry, entry_line}
use Rattle.agents_file.specs.declared.contents.Kept.{Kept}
use Rattle.agents_file.specs.declared.entry.AgentEntry.{AgentEntry}

-- the line of a slot: each line of the file has 256 bytes, and the first is the head
abbrev pub slot_line : ℕ → List ℕ → List ℕ
slot_line slot bytes = take 256 (drop (256 * (slot + 1)) bytes)

-- these are the entries in the first n slots: each is the entry of its slot's line, and a slot whose line is that of an entry is among
-- them
pub record AreKept (n : ℕ) (bytes : List ℕ) (kept : List Kept) : Type 0 where
  pub each : All (λ k. slot_line k.slot bytes ≡ entry_line k.entry) kept
  pub all : (slot : ℕ) (e : AgentEntry) → slot < n → IsEntry e → slot_line slot bytes ≡ entry_line e → Contains (map (λ k. k.slot) kept) slot
