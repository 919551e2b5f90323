-- The lines of entries and of the head.
use Rattle.std.specs.Prelude.{◌≡◌, ℕ, ◌<◌, ◌≤◌, ◌^◌, List, [], ◌∷◌, true, codes, decimal, length}
use Rattle.ocf_types.specs.Actions.{action_word}
use Rattle.ocf_types.specs.Names.{is_rsc_id}
use Rattle.ocf_types.specs.Numbers.{IsDrawn}
use Rattle.agents_file.specs.Lines.{padded, spaced}
use Rattle.agents_file.specs.declared.entry.AgentEntry.{AgentEntry}
use Rattle.agents_file.specs.declared.entry.EntryFields.{EntryFields}
use Rattle.agents_file.specs.declared.head.Head.{Head}

-- the fields of an entry: run, resource, action, number and start of the process, begin and timeout. OCF Resource Agent API 1.1,
-- actions; proc(5), stat
abbrev pub entry_fields : AgentEntry → List (List ℕ)
entry_fields e =
    decimal e.run ∷ e.id ∷ action_word e.action ∷ decimal e.pid ∷ decimal e.start ∷ decimal e.began ∷ decimal e.timeout ∷ []

-- texts of fields, in this order
abbrev pub texts_of : EntryFields → List (List ℕ)
texts_of f = f.run.now ∷ f.id.now ∷ f.action.now ∷ f.pid.now ∷ f.start.now ∷ f.began.now ∷ f.timeout.now ∷ []

-- an entry's text and line
abbrev pub entry_text : AgentEntry → List ℕ
entry_text e = spaced (entry_fields e)

abbrev pub entry_line : AgentEntry → List ℕ
entry_line e = padded (entry_text e)

-- the number of an agent's process: neither 0 nor 1, as a signal to such a group would reach the sender's own group or all processes, and
-- no more than pid_t holds. POSIX, kill
abbrev pub IsPid : ℕ → Type 0
IsPid pid = (2 ≤ pid) × (pid < 2 ^ 31)

-- an entry has the number of a run, the id of a resource, the number of a process, and other numbers that fit
pub record IsEntry (e : AgentEntry) : Type 0 where
  pub run : IsDrawn e.run
  pub id : is_rsc_id e.id ≡ true
  pub pid : IsPid e.pid
  pub start : e.start < 2 ^ 64
  pub began : e.began < 2 ^ 64
  pub timeout : e.timeout < 2 ^ 32

-- the fields of a head: the name of the file with the number of its layout, the identifier of the boot, the moment, and the reading of
-- the system's clock. Linux, random(4); POSIX, clock_gettime
abbrev pub head_fields : Head → List (List ℕ)
head_fields h = codes "agents-1" ∷ h.boot ∷ decimal h.moment ∷ decimal h.monotonic ∷ []

-- a head's text and line
abbrev pub head_text : Head → List ℕ
head_text h = spaced (head_fields h)

abbrev pub head_line : Head → List ℕ
head_line h = padded (head_text h)

-- the identifier of a boot has 36 bytes, which may be any, and the numbers fit
pub record IsHead (h : Head) : Type 0 where
  pub boot : length h.boot ≡ 36
  pub moment : h.moment < 2 ^ 64
  pub monotonic : h.monotonic < 2 ^ 64
