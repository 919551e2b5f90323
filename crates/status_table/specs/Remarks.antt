-- What is known of resources beside the journal: the reasons for last failures, and what resources wait for.
use Rattle.std.specs.Prelude.{ℕ, Bool, List, filter, Option, None, option_map}
use Rattle.std.specs.List.{last_or}
use Rattle.std.specs.Str.{bytes_eq}
use Rattle.status_table.specs.declared.options.StatusOptions.{StatusOptions}
use Rattle.status_table.specs.declared.options.Remark.{Remark}

-- a remark is one on the resource with this id
abbrev pub is_of : List ℕ → Remark → Bool
is_of id remark = bytes_eq remark.id.now id

-- the last of these remarks on the resource with this id
abbrev pub remark_of : List Remark → List ℕ → Option (List ℕ)
remark_of remarks id = option_map (λ remark. remark.text.now) (last_or None (filter (is_of id) remarks))

-- the reason that is known for the last failure of the resource with this id
abbrev pub reason_of : StatusOptions → List ℕ → Option (List ℕ)
reason_of options id = remark_of options.reasons.now id

-- what that resource is known to wait for
abbrev pub wait_of : StatusOptions → List ℕ → Option (List ℕ)
wait_of options id = remark_of options.waits.now id
