-- What was asked of the system so far, and how each call changes it.
use Rattle.std.specs.Prelude.{◌==◌, ℕ, zero, suc, Bool, true, false, List, [], ◌∷◌, ◌++◌, Option, Some, None, Result, Ok, Err, filter, not, map}
use Rattle.std.specs.List.{remove}
use Rattle.std.specs.declared.io.Error.{Error}
use Rattle.std.specs.declared.process.ExitStatus.{ExitStatus}
use Rattle.agent_system.specs.Sights.{Look, Sights}
use Rattle.agent_system.specs.declared.agent_process.AgentProcess.{AgentProcess}
use Rattle.agent_system.specs.declared.signal.Signal.{Signal}
use Rattle.agent_system.specs.declared.signal.Target.{Target}
use Rattle.agent_system.specs.declared.agent_system.OpenedRecord.{OpenedRecord}
use Rattle.agents_file.specs.declared.entry.AgentEntry.{AgentEntry}
use Rattle.ocf_env.specs.Locations.{Call}
use Rattle.proc_files.specs.declared.process.Process.{Process}

-- a process that was spawned: for which agent's call, and by which program that made it a leader, if by one
pub record Spawned : Type 0 where
  pub process : AgentProcess
  pub call : Call
  pub leader : Option (List ℕ)

-- a poll of an agent's process, and the system's answer
pub record Polled : Type 0 where
  pub process : AgentProcess
  pub answer : Result (Option ExitStatus) Error

-- a signal that was requested
pub record Sent : Type 0 where
  pub signal : Signal
  pub target : Target

-- all that was asked: the processes that were spawned for runs, those that were spawned to be asked something else, those that were let
-- run, the polls, the signals, the answers about numbers, all oldest first, and the entries that the record of who runs had when it was
-- opened
pub record SystemView : Type 0 where
  pub sights : Sights
  pub spawned : List Spawned
  pub asked : List Spawned
  pub let_run : List AgentProcess
  pub polled : List Polled
  pub sent : List Sent
  pub looked : List Look
  pub found : List AgentEntry

-- nothing was asked yet, by this process, if it can be read
abbrev pub unasked : Option Process → SystemView
unasked own = record {
  sights = record { live = []; given_up = []; own = own; table = None; looks = []; empty = [] };
  spawned = [];
  asked = [];
  let_run = [];
  polled = [];
  sent = [];
  looked = [];
  found = [];
}

-- numbers may have been given again
abbrev pub forgotten : Sights → Sights
forgotten s = record s { table = None; looks = []; empty = [] }

-- the process of a spawn, if it succeeded
abbrev pub started : {C : Type 0} → (C → AgentProcess) → Result C Error → Option AgentProcess
started process_of (Ok child) = Some (process_of child)
started process_of (Err error) = None

-- one more process lives
abbrev pub with_live : Sights → AgentProcess → Sights
with_live s p = record (forgotten s) { live = s.live ++ p ∷ [] }

abbrev pub after_spawn : SystemView → Call → Option (List ℕ) → Option AgentProcess → SystemView
after_spawn v call leader None = v
after_spawn v call leader (Some p) =
    record v { sights = with_live v.sights p; spawned = v.spawned ++ record { process = p; call = call; leader = leader } ∷ [] }

abbrev pub after_ask : SystemView → Call → Option (List ℕ) → Option AgentProcess → SystemView
after_ask v call leader None = v
after_ask v call leader (Some p) =
    record v { sights = with_live v.sights p; asked = v.asked ++ record { process = p; call = call; leader = leader } ∷ [] }

abbrev pub after_let_run : SystemView → AgentProcess → Result Unit Error → SystemView
after_let_run v p (Ok x) = record v { let_run = v.let_run ++ p ∷ [] }
after_let_run v p (Err error) = v

-- the live processes of all other runs
abbrev pub without_process : ℕ → List AgentProcess → List AgentProcess
without_process run live = filter (λ p. not (p.run == run)) live

-- what is seen after a poll: a process that has ended no longer lives
abbrev pub sights_polled : Sights → AgentProcess → Result (Option ExitStatus) Error → Sights
sights_polled s p (Ok (Some status)) = record (forgotten s) { live = without_process p.run s.live }
sights_polled s p _ = s

abbrev pub after_poll : SystemView → AgentProcess → Result (Option ExitStatus) Error → SystemView
after_poll v p answer = record v { sights = sights_polled v.sights p answer; polled = v.polled ++ record { process = p; answer = answer } ∷ [] }

-- a live process is given up
abbrev pub after_give_up : SystemView → AgentProcess → SystemView
after_give_up v p = record v {
  sights = record v.sights {
    live = without_process p.run v.sights.live;
    given_up = v.sights.given_up ++ record { process = p; is_child = true; known = [] } ∷ [];
  };
}

-- the process of an entry of the record of who runs
abbrev pub process_in : AgentEntry → AgentProcess
process_in e = record { run = e.run; id = e.id; pid = e.pid; start = Some e.start }

-- the process of an entry is given up, which no call of this process spawned
abbrev pub after_adopt : SystemView → AgentEntry → SystemView
after_adopt v e =
    record v { sights = record v.sights { given_up = v.sights.given_up ++ record { process = process_in e; is_child = false; known = [] } ∷ [] } }

-- a list with the element at this index changed
abbrev pub changed_at : {X : Type 0} → ℕ → (X → X) → List X → List X
changed_at at f [] = []
changed_at zero f (x ∷ xs) = f x ∷ xs
changed_at (suc at) f (x ∷ xs) = x ∷ changed_at at f xs

-- the process that was given up at this index was asked for its end: it is reaped if it has ended
abbrev pub after_reap : SystemView → ℕ → Result (Option ExitStatus) Error → SystemView
after_reap v at (Ok (Some status)) =
    record v { sights = record (forgotten v.sights) { given_up = changed_at at (λ u. record u { is_child = false }) v.sights.given_up } }
after_reap v at _ = v

-- the processes that belong to what was given up at this index are known
abbrev pub after_keep : SystemView → ℕ → List Process → SystemView
after_keep v at found = record v { sights = record v.sights { given_up = changed_at at (λ u. record u { known = found }) v.sights.given_up } }

-- what was given up at this index is over
abbrev pub after_release : SystemView → ℕ → SystemView
after_release v at = record v { sights = record v.sights { given_up = remove v.sights.given_up at } }

-- the answer about a number, `None` where the system failed to give one
abbrev pub answer_of : Result (Option Process) Error → Option (Option Process)
answer_of (Ok answer) = Some answer
answer_of (Err error) = None

abbrev pub after_look : SystemView → ℕ → Result (Option Process) Error → SystemView
after_look v pid result = record v {
  sights = record v.sights { looks = record { pid = pid; answer = answer_of result } ∷ v.sights.looks };
  looked = v.looked ++ record { pid = pid; answer = answer_of result } ∷ [];
}

-- a listing replaces the one before it
abbrev pub after_list : SystemView → Option (List Process) → SystemView
after_list v None = v
after_list v (Some table) = record v { sights = record v.sights { table = Some table } }

abbrev pub after_members : SystemView → ℕ → Option Bool → SystemView
after_members v group (Some false) = record v { sights = record v.sights { empty = group ∷ v.sights.empty } }
after_members v group _ = v

abbrev pub after_send : SystemView → Signal → Target → SystemView
after_send v signal target = record v { sent = v.sent ++ record { signal = signal; target = target } ∷ [] }

-- the record of who runs was opened, with these entries
abbrev pub after_open : SystemView → Option (List AgentEntry) → SystemView
after_open v None = v
after_open v (Some entries) = record v { found = v.found ++ entries }

-- the entries that an opening found
abbrev pub entries_of : OpenedRecord → List AgentEntry
entries_of opened = map (λ k. k.entry) opened.entries.items
