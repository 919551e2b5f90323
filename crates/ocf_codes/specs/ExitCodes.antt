-- The table of exit codes.
use Rattle.std.specs.Prelude.{ℕ, ◌==◌, ◌≡◌, ◌<◌, ◌&&◌, nat_le, true, List, [], ◌∷◌, length, Option, Some, None, codes}
use Rattle.std.specs.List.{find, list_all}
use Rattle.ocf_codes.specs.declared.exit_code.Code.{Code}
use Rattle.ocf_codes.specs.declared.exit_code.Code.TheVariants.{Success, Generic, Args, Unimplemented, Perm, Installed, Configured}
use Rattle.ocf_codes.specs.declared.exit_code.Code.TheVariants.{NotRunning, RunningPromoted, FailedPromoted, Degraded, DegradedPromoted}
use Rattle.ocf_codes.specs.declared.exit_code.Code.TheVariants.{Other}

-- a row of the table: a number, its meaning, and its name
abbrev pub Row : Type 0
Row = ℕ × Code × List ℕ

-- the table: OCF Resource Agent API 1.1 and Pacemaker Administration, exit codes
abbrev pub exit_codes : List Row
exit_codes =
    (0, Success, codes "OCF_SUCCESS") ∷ (1, Generic, codes "OCF_ERR_GENERIC") ∷ (2, Args, codes "OCF_ERR_ARGS")
    ∷ (3, Unimplemented, codes "OCF_ERR_UNIMPLEMENTED") ∷ (4, Perm, codes "OCF_ERR_PERM")
    ∷ (5, Installed, codes "OCF_ERR_INSTALLED") ∷ (6, Configured, codes "OCF_ERR_CONFIGURED")
    ∷ (7, NotRunning, codes "OCF_NOT_RUNNING") ∷ (8, RunningPromoted, codes "OCF_RUNNING_PROMOTED")
    ∷ (9, FailedPromoted, codes "OCF_FAILED_PROMOTED") ∷ (190, Degraded, codes "OCF_DEGRADED")
    ∷ (191, DegradedPromoted, codes "OCF_DEGRADED_PROMOTED") ∷ []

-- the row of a number, if it has one
abbrev pub row_at : ℕ → Option Row
row_at n = find (λ row. row.0 == n) exit_codes

-- the meaning of a number with this row; without a row the number itself
abbrev pub code_in : ℕ → Option Row → Code
code_in n (Some row) = row.1
code_in n None = Other n

-- the meaning of an exit code
abbrev pub code_read : ℕ → Code
code_read n = code_in n (row_at n)

-- the name in this row; without a row, other
abbrev pub name_in : Option Row → List ℕ
name_in (Some row) = row.2
name_in None = codes "other"

-- the name of an exit code
abbrev pub name_read : ℕ → List ℕ
name_read n = name_in (row_at n)

-- a text of printable ASCII characters, at least one: it fits into a line
abbrev pub IsPlainText : List ℕ → Type 0
IsPlainText text = (0 < length text) × (list_all (λ b. nat_le 32 b && nat_le b 126) text ≡ true)
