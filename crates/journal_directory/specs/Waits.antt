-- Which resources wait for what an earlier action left running.
use Rattle.std.specs.Prelude.{◌≡◌, ◌≢◌, ◌⊎◌, ℕ, ◌==◌, ◌&&◌, not, nat_lt, Bool, false, List}
use Rattle.std.specs.List.{Any, list_any}
use Rattle.std.specs.Option.{option_map_or}
use Rattle.ocf_model.specs.Resource.{Resource}
use Rattle.ocf_model.specs.State.{State}
use Rattle.agents_file.specs.declared.entry.AgentEntry.{AgentEntry}
use Rattle.proc_files.specs.declared.process.Process.{Process}

-- a resource runs this run
abbrev pub is_run : ℕ → Resource → Bool
is_run run r = option_map_or (λ x. x.run == run) r.history.running false

-- a resource of this state runs this run
abbrev pub is_run_in : State → ℕ → Bool
is_run_in s run = list_any (λ e. is_run run e.1) s.resources

-- a run was begun before this state, which does not run it
abbrev pub is_past : State → ℕ → Bool
is_past s run = nat_lt run s.next_run && not (is_run_in s run)

-- a process is alive and the agent of an entry, by number and start, or in the group that the agent led. POSIX, setsid
abbrev pub IsAlive : AgentEntry → Process → Type 0
IsAlive e p = (p.has_ended ≡ false) × (((p.pid ≡ e.pid) × (p.start ≡ e.start)) ⊎ (p.group ≡ e.pid))

-- a process has the number of an entry's agent, and is another one
abbrev pub IsReused : AgentEntry → Process → Type 0
IsReused e p = (p.pid ≡ e.pid) × (p.start ≢ e.start)

-- the action of an entry goes on among these processes: its agent is alive, or a process of its group, whose number no process gets
-- meanwhile
abbrev pub GoesOnIn : List Process → AgentEntry → Type 0
GoesOnIn table e = Any (IsAlive e) table × ¬ Any (IsReused e) table
