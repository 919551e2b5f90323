-- The views of scripted agent processes.
use Rattle.std.specs.Prelude.{ℕ, None}
use Rattle.std.specs.VecDeque.{deque_items}
use Rattle.child_model.specs.Children.{ChildrenView}
use Rattle.test_support.specs.Scripts.{ScriptView}
use Rattle.test_support.specs.declared.script.Script.{Script}
use Rattle.test_support.specs.declared.scripted.Scripted.{Scripted}

-- a script as it was written, with no fault planned
abbrev pub script_view : {M : Type 0} → Script M → ScriptView
script_view s = record { starts = deque_items s.starts; polls = deque_items s.polls; kills = deque_items s.kills; fault_in = 0 }

-- the script with a fault planned this many calls ahead
abbrev pub planned_in : ℕ → ScriptView → ScriptView
planned_in calls v = record { starts = v.starts; polls = v.polls; kills = v.kills; fault_in = calls }

-- the rest of the script, with its planned fault
abbrev pub script_of : {M : Type 0} → Scripted M → ScriptView
script_of c = planned_in c.fault_in (script_view c.script)

-- what the trait `Children` shows of them; they name no site, so agents may be at any
abbrev pub children_of : {M : Type 0} → Scripted M → ChildrenView
children_of c = record { book = c.book.entries.items; log = c.book.log.items; room = c.book.room; last_run = c.last_run; live = c.live.runs.items; given_up = c.live.given_up.items; held = deque_items c.script.holds; site = None }
