-- The reasons that agents gave for failures.
use Rattle.std.specs.Prelude.{ℕ, ◌==◌, List, Option, option_map}
use Rattle.std.specs.List.{find}
use Rattle.resource_status.specs.declared.reasons.RunReason.{RunReason}

-- the reason for the failure of a run, if it is among these
abbrev pub reason_of : List RunReason → ℕ → Option (List ℕ)
reason_of reasons run = option_map (λ r. r.text) (find (λ r. r.run == run) reasons)
