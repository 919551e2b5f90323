-- The views of the system that calls reach, whatever the system answers.
use Rattle.std.specs.Prelude.{◌≡◌, ◌≢◌, ◌⊎◌, ℕ, Bool, List, [], ◌∷◌, ◌++◌, Option, Some, Result, Ok, ⊤, All, Contains, IfSome, map}
use Rattle.std.specs.declared.io.Error.{Error}
use Rattle.std.specs.declared.process.ExitStatus.{ExitStatus}
use Rattle.agent_system.specs.May.{IsChildAt, IsFree, IsOver, IsOverAt, MayKeepAt, MaySignal}
use Rattle.agent_system.specs.Sights.{GivenUp}
use Rattle.agent_system.specs.SystemView.{SystemView, after_adopt, after_ask, after_give_up, after_keep, after_let_run, after_list, after_look, after_members, after_open, after_poll, after_reap, after_release, after_send, after_spawn, process_in, unasked}
use Rattle.agent_system.specs.declared.agent_process.AgentProcess.{AgentProcess}
use Rattle.agent_system.specs.declared.signal.Signal.{Signal}
use Rattle.agent_system.specs.declared.signal.Signal.TheVariants.{Kill}
use Rattle.agent_system.specs.declared.signal.Target.{Target}
use Rattle.agent_system.specs.declared.signal.Target.TheVariants as target
use Rattle.agents_file.specs.declared.entry.AgentEntry.{AgentEntry}
use Rattle.ocf_env.specs.Locations.{Call}
use Rattle.proc_files.specs.declared.process.Process.{Process}

-- the view after a call that asks or signals, which changes neither what lives nor what was given up
pub data IsAsked (v : SystemView) : SystemView → Type 0 where
  let_run : (p : AgentProcess) (answer : Result Unit Error) → Contains v.sights.live p → IsAsked v (after_let_run v p answer)
  kill : (at : ℕ) (p : AgentProcess) → IsChildAt v.sights at p → IsAsked v (after_send v Kill (target.Process p.pid))
  send : (signal : Signal) (to : Target) → MaySignal v.sights to → IsAsked v (after_send v signal to)
  list : (table : Option (List Process)) → IsAsked v (after_list v table)
  look : (pid : ℕ) (answer : Result (Option Process) Error) → IsAsked v (after_look v pid answer)
  members : (group : ℕ) (answer : Option Bool) → IsAsked v (after_members v group answer)
  opened : (entries : Option (List AgentEntry)) → IsAsked v (after_open v entries)

-- the view after a call of `AgentSystem` that may be made, with any answer. Of what a spawn needs, that the resource is free is enough here
pub data IsNext (v : SystemView) : SystemView → Type 0 where
  asked : (w : SystemView) → IsAsked v w → IsNext v w
  spawn : (call : Call) (leader : Option (List ℕ)) (p : Option AgentProcess)
      → IfSome p (λ p. IsFree v.sights p.id) → IsNext v (after_spawn v call leader p)
  ask : (call : Call) (leader : Option (List ℕ)) (p : Option AgentProcess) → IsNext v (after_ask v call leader p)
  poll : (p : AgentProcess) (answer : Result (Option ExitStatus) Error) → Contains v.sights.live p → IsNext v (after_poll v p answer)
  give_up : (p : AgentProcess) → Contains v.sights.live p → IsNext v (after_give_up v p)
  adopt : (e : AgentEntry) → Contains v.found e → IsNext v (after_adopt v e)
  reap : (at : ℕ) (p : AgentProcess) (answer : Result (Option ExitStatus) Error) → IsChildAt v.sights at p → IsNext v (after_reap v at answer)
  keep : (at : ℕ) (found : List Process) → MayKeepAt v.sights at found → IsNext v (after_keep v at found)
  release : (at : ℕ) → IsOverAt v.sights at → IsNext v (after_release v at)

-- a view that calls reach from another
pub data Reaches (v : SystemView) : SystemView → Type 0 where
  none : Reaches v v
  more : (m w : SystemView) → Reaches v m → IsNext m w → Reaches v w

-- a view that calls reach, from when nothing was asked
abbrev pub IsHistory : SystemView → Type 0
IsHistory v = Reaches (unasked v.sights.own) v

-- R holds of each element and each one after it
abbrev pub AllPairs : {X : Type 0} → (X → X → Type 0) → List X → Type 0
AllPairs R [] = ⊤
AllPairs R (x ∷ xs) = All (R x) xs × AllPairs R xs

-- the processes that were spawned
abbrev pub processes_of : SystemView → List AgentProcess
processes_of v = map (λ s. s.process) v.spawned

-- the processes that were given up
abbrev pub given_up_in : SystemView → List AgentProcess
given_up_in v = map (λ u. u.process) v.sights.given_up

-- those that live, and then those that were given up
abbrev pub known_in : SystemView → List AgentProcess
known_in v = v.sights.live ++ given_up_in v

-- it may have been adopted: it is that of an entry of the record of who runs
abbrev pub IsFound : SystemView → AgentProcess → Type 0
IsFound v p = Contains (map process_in v.found) p

-- two processes are of different resources, or this process of the executor did not spawn both
abbrev pub AreApart : SystemView → AgentProcess → AgentProcess → Type 0
AreApart v p q = (p.id ≢ q.id) ⊎ (IsFound v p ⊎ IsFound v q)

-- no two spawned processes are of the same run
abbrev pub HaveOwnRuns : List AgentProcess → Type 0
HaveOwnRuns ps = (p q : AgentProcess) → Contains ps p → Contains ps q → p.run ≡ q.run → p ≡ q

-- a poll showed that this process has ended
abbrev pub WasSeenEnded : SystemView → AgentProcess → Type 0
WasSeenEnded v p = (status : ExitStatus) × Contains v.polled (record { process = p; answer = Ok (Some status) })

-- at a view on the way this process was given up, and over
pub record WasOver (start v : SystemView) (p : AgentProcess) : Type 0 where
  pub at : SystemView
  pub before : Reaches start at
  pub after : Reaches at v
  pub its : GivenUp
  pub given_up : Contains at.sights.given_up its
  pub process : its.process ≡ p
  pub over : IsOver at.sights its

-- this process lives, or is given up; or its end was seen, or it was over
abbrev pub IsKnownOrOver : SystemView → SystemView → AgentProcess → Type 0
IsKnownOrOver start v p = Contains (known_in v) p ⊎ (WasSeenEnded v p ⊎ WasOver start v p)
