-- The next answers of scripted agent processes.
use Rattle.std.specs.Prelude.{ℕ, ◌-◌, ◌==◌, List, [], ◌∷◌, Result, Ok, Err, drop, if◌then◌else◌}
use Rattle.ocf_types.specs.declared.outcome.StartFault.{StartFault}
use Rattle.ocf_types.specs.declared.outcome.StartFault.TheVariants.{Other}
use Rattle.child_model.specs.declared.answer.KillFault.{KillFault}
use Rattle.child_model.specs.declared.answer.Poll.{Poll}
use Rattle.child_model.specs.declared.answer.Poll.TheVariants as poll

-- the answers to come, and in how many calls of start, poll and kill the fault comes: 0 where none is planned
pub record ScriptView : Type 0 where
  pub starts : List (Result Unit StartFault)
  pub polls : List Poll
  pub kills : List (Result Unit KillFault)
  pub fault_in : ℕ

-- the next answer of a list, or `last` after its end
abbrev pub head_or : {A : Type 0} → A → List A → A
head_or last [] = last
head_or last (a ∷ rest) = a

-- the answer of a call: the fault if it was planned for this call, else the next one of its list
abbrev pub answered : {A : Type 0} → A → A → ScriptView → List A → A
answered fault last v list = if v.fault_in == 1 then fault else head_or last list

-- the next answer to a start, a poll and a kill
abbrev pub next_start : ScriptView → Result Unit StartFault
next_start v = answered (Err Other) (Ok tt) v v.starts

abbrev pub next_poll : ScriptView → Poll
next_poll v = answered poll.Fault poll.Running v v.polls

abbrev pub next_kill : ScriptView → Result Unit KillFault
next_kill v = answered (Err (record {})) (Ok tt) v v.kills

-- the script after a call: one answer less in its list, and the fault one call nearer
abbrev pub started_on : ScriptView → ScriptView
started_on v = record { starts = drop 1 v.starts; polls = v.polls; kills = v.kills; fault_in = v.fault_in - 1 }

abbrev pub polled_on : ScriptView → ScriptView
polled_on v = record { starts = v.starts; polls = drop 1 v.polls; kills = v.kills; fault_in = v.fault_in - 1 }

abbrev pub killed_on : ScriptView → ScriptView
killed_on v = record { starts = v.starts; polls = v.polls; kills = drop 1 v.kills; fault_in = v.fault_in - 1 }
