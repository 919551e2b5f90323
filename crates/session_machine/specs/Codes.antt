-- How a trace is stored, for proofs that tell traces apart.
use Rattle.std.specs.Coded.{Coded, codes}
use Rattle.serde_json.specs.contracts.value.Value as json_value
use Rattle.session_machine.specs.Behaviours.{Trace}

-- the code of a trace, from that of a store
pub trace_code : {S : Type 0} → Coded S → Coded (Trace S)
trace_code of_store = Prim.hlevel (of_store, codes, json_value.the_row.coded)
