-- The owners and modes of a journal's directory and files that an executor accepts.
use Rattle.std.specs.Prelude.{◌≡◌, ◌≢◌, ⊤, ℕ, bit_and}
use Rattle.file_disk.specs.declared.trust.Distrust.{Distrust}
use Rattle.file_disk.specs.declared.trust.Distrust.TheVariants.{Owner, Writers}
use Rattle.file_disk.specs.declared.trust.Owners.{Owners}
use Rattle.file_disk.specs.declared.trust.Owners.TheVariants.{Any, TrustedBy}

-- a mode lets neither the group nor others write: neither S_IWGRP nor S_IWOTH (octal 22 together) is set. POSIX, sys/stat.h
abbrev pub IsClosed : ℕ → Type 0
IsClosed mode = bit_and mode 18 ≡ 0

-- this user owns a file of this owner and mode, and no other user may write it; root may write any
abbrev pub IsHeldBy : (user owner mode : ℕ) → Type 0
IsHeldBy user owner mode = (owner ≡ user) × IsClosed mode

-- root, user 0, accepts only what root alone may write; any other user accepts any
abbrev pub Accepts : Owners → (owner mode : ℕ) → Type 0
Accepts Any owner mode = ⊤
Accepts (TrustedBy user) owner mode = user ≡ 0 → IsHeldBy 0 owner mode

-- why a file of this owner and mode is refused: the executor runs as root, and another user may write the file
abbrev pub IsReason : Owners → (owner mode : ℕ) → Distrust → Type 0
IsReason Any owner mode why = ⊥
IsReason (TrustedBy user) owner mode (Owner other) = (user ≡ 0) × (other ≡ owner) × (owner ≢ 0)
IsReason (TrustedBy user) owner mode Writers = (user ≡ 0) × ¬ IsClosed mode
