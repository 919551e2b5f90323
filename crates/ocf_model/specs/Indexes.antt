-- The resources of a state by index: in order of registration, from 0.
use Rattle.std.specs.Prelude.{ℕ, List, [], slice_index_or}
use Rattle.ocf_model.specs.Resource.{Resource, no_history}
use Rattle.ocf_model.specs.State.{State}

-- the default entry, for an index beyond the list
abbrev pub no_entry : List ℕ × Resource
no_entry = ([], record { provider = []; agent = []; params = []; history = no_history; recurring = [] })

-- the id and the resource at an index
abbrev pub entry_at : State → ℕ → List ℕ × Resource
entry_at s index = slice_index_or s.resources index no_entry

abbrev pub id_at : State → ℕ → List ℕ
id_at s index = (entry_at s index).0

abbrev pub at_index : State → ℕ → Resource
at_index s index = (entry_at s index).1
