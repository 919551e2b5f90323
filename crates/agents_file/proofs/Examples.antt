-- The definitions on examples.
use Rattle.std.specs.Prelude.{◌≡◌, ◌++◌, [], ◌∷◌, codes, replicate}
use Rattle.std.proofs.Common.{refl}
use Rattle.std.specs.Fmt.{digits}
use Rattle.ocf_types.specs.declared.action.Action.TheVariants.{Start}
use Rattle.agents_file.specs.Entries.{entry_line, head_line}
use Rattle.agents_file.specs.declared.entry.AgentEntry.{AgentEntry}
use Rattle.agents_file.specs.declared.head.Head.{Head}

-- the line of an entry
abbrev web : AgentEntry
web = record { run = 17; id = codes "web"; action = Start; pid = 4711; start = 250; began = 2500; timeout = 20000 }

line_of_an_entry : entry_line web ≡ codes "17 web start 4711 250 2500 20000" ++ (replicate 223 32 ++ 10 ∷ [])
unfolding digits
line_of_an_entry = refl

-- the line of a head
abbrev opened : Head
opened = record { boot = codes "01234567-89ab-cdef-0123-456789abcdef"; moment = 1764201600000; monotonic = 2500 }

line_of_a_head : head_line opened ≡ codes "agents-1 01234567-89ab-cdef-0123-456789abcdef 1764201600000 2500" ++ (replicate 191 32 ++ 10 ∷ [])
unfolding digits
line_of_a_head = refl
