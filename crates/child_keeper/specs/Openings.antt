-- How the agents of an earlier executor are found.
use Rattle.std.specs.Prelude.{◌≡◌, ◌⊎◌, ◌&&◌, Bool, false, List, [], ◌∷◌, ◌++◌, Option, Some, All, Contains, if◌then◌else◌, map, not}
use Rattle.agent_system.specs.Sights.{HasEnded}
use Rattle.agent_system.specs.SystemView.{SystemView, process_in}
use Rattle.agent_system.specs.declared.agent_process.AgentProcess.{AgentProcess}
use Rattle.agents_file.specs.declared.entry.AgentEntry.{AgentEntry}
use Rattle.child_keeper.specs.Waits.{IsPart}
use Rattle.ocf_types.specs.declared.orphan.Orphan.{Orphan}
use Rattle.process_ends.specs.Endings.{Begins, HasLook}
use Rattle.proc_files.specs.declared.process.Process.{Process}

-- nothing was asked of the system but what processes there are, and what was found may have been adopted
pub record OnlyAdopts (v w : SystemView) : Type 0 where
  pub live : w.sights.live ≡ v.sights.live
  pub own : w.sights.own ≡ v.sights.own
  pub spawned : w.spawned ≡ v.spawned
  pub asked : w.asked ≡ v.asked
  pub let_run : w.let_run ≡ v.let_run
  pub polled : w.polled ≡ v.polled
  pub sent : w.sent ≡ v.sent
  pub found : w.found ≡ v.found
  pub looked : Begins w.looked v.looked

-- nothing was asked of the system but what processes there are
pub record OnlyLooks (v w : SystemView) : Type 0 where
  pub adopts : OnlyAdopts v w
  pub given_up : w.sights.given_up ≡ v.sights.given_up

-- nothing was asked of the system but what is found of an earlier executor's agents
pub record OnlyOpens (v w : SystemView) : Type 0 where
  pub live : w.sights.live ≡ v.sights.live
  pub own : w.sights.own ≡ v.sights.own
  pub spawned : w.spawned ≡ v.spawned
  pub asked : w.asked ≡ v.asked
  pub let_run : w.let_run ≡ v.let_run
  pub polled : w.polled ≡ v.polled
  pub sent : w.sent ≡ v.sent
  pub looked : Begins w.looked v.looked

-- between two views a look at the number of an entry's process showed that this has ended
abbrev pub IsSeenEnded : SystemView → SystemView → AgentEntry → Type 0
IsSeenEnded v w e = (answer : Option (Option Process)) × HasLook v w e.pid answer × HasEnded (Some e.start) answer

-- how an agent is listed that lives
abbrev pub left_of : AgentEntry → Orphan
left_of e = record { run = e.run; pid = e.pid }

-- the agent of one more entry was looked for: one that lives is listed, and waited for unless agents are left to themselves; one that
-- does not was seen to have ended
pub record IsFound (v w : SystemView) (leave : Bool) (e : AgentEntry) (was now : List AgentProcess) (listed list : List Orphan) : Type 0 where
  pub lives : Bool
  pub ended : lives ≡ false → IsSeenEnded v w e
  pub waits : now ≡ (if lives && not leave then was ++ process_in e ∷ [] else was)
  pub left : list ≡ (if lives then listed ++ left_of e ∷ [] else listed)

-- the agents of these entries were looked for: those that live are listed, and waited for unless agents are left to themselves; each of
-- the others was seen to have ended
pub record AreFound (v w : SystemView) (leave : Bool) (entries : List AgentEntry) (waiting : List AgentProcess) (listed : List Orphan) : Type 0 where
  pub living : List AgentEntry
  pub part : IsPart living entries
  pub each : All (λ e. Contains living e ⊎ IsSeenEnded v w e) entries
  pub waits : waiting ≡ (if leave then [] else map process_in living)
  pub left : listed ≡ map left_of living
