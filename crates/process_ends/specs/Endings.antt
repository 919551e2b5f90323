-- The ends of actions that were given up, with all that belongs to them.
use Rattle.std.specs.Prelude.{◌≡◌, ◌⊎◌, ◌↔◌, ℕ, Bool, true, false, List, [], ◌++◌, Option, Some, Result, All, Contains, IfSome, IsTrue, is_some, map, slice_get, slice_set}
use Rattle.std.specs.declared.io.Error.{Error}
use Rattle.agent_system.specs.May.{AreAll, IsEnded, IsGroupEmpty, IsItsGroup}
use Rattle.agent_system.specs.Sights.{GivenUp, HasEnded, IsOther, Lives, Look, Sights, latest}
use Rattle.agent_system.specs.SystemView.{Sent, SystemView, after_look, answer_of}
use Rattle.agent_system.specs.declared.agent_process.AgentProcess.{AgentProcess}
use Rattle.agent_system.specs.declared.signal.Signal.TheVariants.{Kill}
use Rattle.agent_system.specs.declared.signal.Target.{Target}
use Rattle.agent_system.specs.declared.signal.Target.TheVariants as target
use Rattle.process_ends.specs.declared.given_up.GivenUpAction.{GivenUpAction}
use Rattle.proc_files.specs.declared.process.Process.{Process}

-- an action as the system has it, among what was given up
abbrev pub given_up_of : {T C A : Type 0} → GivenUpAction T C A → GivenUp
given_up_of a = record { process = a.process; is_child = is_some a.child; known = a.known.items }

-- it was reaped
abbrev pub without_child : GivenUp → GivenUp
without_child u = record u { is_child = false }

-- the child of an action, if it is one, is its process
abbrev pub IsMatched : {T C A : Type 0} → (C → AgentProcess) → GivenUpAction T C A → Type 0
IsMatched process_of a = IfSome a.child (λ c. process_of c ≡ a.process)

-- these actions are all that was given up, in this order
pub record AreGivenUp {T C A : Type 0} (process_of : C → AgentProcess) (s : Sights) (actions : List (GivenUpAction T C A)) : Type 0 where
  pub are : s.given_up ≡ map given_up_of actions
  pub matched : All (IsMatched process_of) actions

-- this action is what was given up at this index
pub record IsGivenUpAt {T C A : Type 0} (process_of : C → AgentProcess) (s : Sights) (at : ℕ) (a : GivenUpAction T C A) : Type 0 where
  pub is : slice_get s.given_up at ≡ Some (given_up_of a)
  pub matched : IsMatched process_of a

-- what was given up at this index is this action now, and nothing else changed of what was given up
pub record IsChangedAt {T C A : Type 0} (process_of : C → AgentProcess) (s t : Sights) (at : ℕ) (a : GivenUpAction T C A) : Type 0 where
  pub changed : t.given_up ≡ slice_set s.given_up at (given_up_of a)
  pub matched : IsMatched process_of a

-- a list begins with another
abbrev pub Begins : {X : Type 0} → List X → List X → Type 0
Begins {X} all first = (rest : List X) × (all ≡ first ++ rest)

-- nothing was asked of the system but for the ends of what was given up
pub record OnlyEnds (v w : SystemView) : Type 0 where
  pub live : w.sights.live ≡ v.sights.live
  pub own : w.sights.own ≡ v.sights.own
  pub spawned : w.spawned ≡ v.spawned
  pub asked : w.asked ≡ v.asked
  pub let_run : w.let_run ≡ v.let_run
  pub polled : w.polled ≡ v.polled
  pub found : w.found ≡ v.found
  pub sent : Begins w.sent v.sent
  pub looked : Begins w.looked v.looked

-- numbers were looked at and signals sent, and nothing else
pub record OnlySignals (v w : SystemView) : Type 0 where
  pub ends : OnlyEnds v w
  pub given_up : w.sights.given_up ≡ v.sights.given_up
  pub table : w.sights.table ≡ v.sights.table

-- what is kept of each of these actions, their processes, and whether they are due
abbrev pub whats : {T C A : Type 0} → List (GivenUpAction T C A) → List T
whats actions = map (λ a. a.what) actions

abbrev pub processes : {T C A : Type 0} → List (GivenUpAction T C A) → List AgentProcess
processes actions = map (λ a. a.process) actions

abbrev pub dues : {T C A : Type 0} → List (GivenUpAction T C A) → List Bool
dues actions = map (λ a. a.is_due) actions

-- the same of two actions, but for what is known to belong to them and whether they are children
pub record IsSameAction {T C A : Type 0} (a b : GivenUpAction T C A) : Type 0 where
  pub what : b.what ≡ a.what
  pub process : b.process ≡ a.process
  pub due : b.is_due ≡ a.is_due

-- the same of two lists of actions
pub record AreSameActions {T C A : Type 0} (actions bs : List (GivenUpAction T C A)) : Type 0 where
  pub whats : whats bs ≡ whats actions
  pub processes : processes bs ≡ processes actions
  pub dues : dues bs ≡ dues actions

-- between two views SIGKILL was requested for this target
abbrev pub HasKill : SystemView → SystemView → Target → Type 0
HasKill v w to = (sent : List Sent) × (w.sent ≡ v.sent ++ sent) × Contains sent (record { signal = Kill; target = to })

-- between two views this answer about a number came
abbrev pub HasLook : SystemView → SystemView → ℕ → Option (Option Process) → Type 0
HasLook v w pid answer = (looked : List Look) × (w.looked ≡ v.looked ++ looked) × Contains looked (record { pid = pid; answer = answer })

-- the number of what was given up was seen to be another process's, so that no process is left in its group. POSIX, fork
abbrev pub IsSeenOther : SystemView → SystemView → GivenUp → Type 0
IsSeenOther v w u =
    (answer : Option (Option Process)) × HasLook v w u.process.pid answer × (u.is_child ≡ false) × IsOther u.process.start answer

-- the group with this number is that of this process
abbrev pub IsOwnGroup : Option Process → ℕ → Type 0
IsOwnGroup own group = (p : Process) × (own ≡ Some p) × (p.group ≡ group)

-- the group of what was given up is not its own any more, or that of this process
abbrev pub IsNoGroup : SystemView → SystemView → GivenUp → Type 0
IsNoGroup v w u = IsSeenOther v w u ⊎ IsOwnGroup w.sights.own u.process.pid

-- a process was looked at, and the answer did not show that it lives
abbrev pub IsSeenGone : SystemView → SystemView → Process → Type 0
IsSeenGone v w q = (answer : Option (Option Process)) × HasLook v w q.pid answer × ¬ (Lives q answer)

-- SIGKILL was requested for a process or, as it is a member of that, for the group, unless a look did not show that it lives
abbrev pub IsOneKilled : SystemView → SystemView → ℕ → Process → Type 0
IsOneKilled v w group q =
    HasKill v w (target.Process q.pid) ⊎ ((q.group ≡ group) × HasKill v w (target.Group group)) ⊎ IsSeenGone v w q

-- between two views, what was given up was killed: its group, its agent if that is a child, and all that is known to belong to it
pub record IsKilled (v w : SystemView) (u : GivenUp) : Type 0 where
  pub group : HasKill v w (target.Group u.process.pid) ⊎ IsNoGroup v w u
  pub agent : u.is_child ≡ true → HasKill v w (target.Process u.process.pid)
  pub known : All (IsOneKilled v w u.process.pid) u.known

-- what is known to belong to what was given up is all that this listing shows, beside what was known before
abbrev pub IsSearched : Option (List Process) → GivenUp → Type 0
IsSearched listed u =
    (table : List Process) × (before : List Process) × (listed ≡ Some table) × AreAll (record u { known = before }) table u.known

-- each due action of these has P
abbrev pub AllDue : {T C A : Type 0} → (GivenUp → Type 0) → List (GivenUpAction T C A) → Type 0
AllDue P actions = All (λ a. a.is_due ≡ true → P (given_up_of a)) actions

-- what was given up with this process was killed
abbrev pub HasKilled : SystemView → SystemView → AgentProcess → Type 0
HasKilled v w p = (u : GivenUp) × (u.process ≡ p) × IsKilled v w u

-- a process was looked at, and this says whether the answer shows that it lives
pub record IsLookedAt (v w : SystemView) (q : Process) (lives : Bool) : Type 0 where
  pub answer : Result (Option Process) Error
  pub looked : w ≡ after_look v q.pid answer
  pub is : IsTrue lives ↔ Lives q (answer_of answer)

-- the number of what was given up was looked at, and this says whether its group may be signalled
pub record IsGroupAsked (v w : SystemView) (u : GivenUp) (may : Bool) : Type 0 where
  pub answer : Result (Option Process) Error
  pub looked : w ≡ after_look v u.process.pid answer
  pub its : may ≡ true → IsItsGroup u (Some (answer_of answer))
  pub other : may ≡ true → IfSome v.sights.own (λ own. own.group ≡ u.process.pid → ⊥)
  pub none : may ≡ false → ((u.is_child ≡ false) × IsOther u.process.start (answer_of answer)) ⊎ IsOwnGroup v.sights.own u.process.pid

-- SIGKILL was requested for a process, unless it is a member of the group and that may be signalled, or a look did not show that it lives
abbrev pub IsKilledBeside : SystemView → SystemView → ℕ → Bool → Process → Type 0
IsKilledBeside v w group has_group q =
    HasKill v w (target.Process q.pid) ⊎ ((q.group ≡ group) × (has_group ≡ true)) ⊎ IsSeenGone v w q

-- a number was looked at, and this may say that the answer shows the end of each process of what was given up that had it
pub record IsEndAsked (v w : SystemView) (u : GivenUp) (pid : ℕ) (ended : Bool) : Type 0 where
  pub answer : Result (Option Process) Error
  pub looked : w ≡ after_look v pid answer
  pub agent : ended ≡ true → u.process.pid ≡ pid → HasEnded u.process.start (answer_of answer)
  pub known : ended ≡ true → All (λ q. q.pid ≡ pid → HasEnded (Some q.start) (answer_of answer)) u.known

-- all that is known to belong to what was given up has ended, as the last answers about their numbers show
abbrev pub AreEnded : List Look → List Process → Type 0
AreEnded looks known = All (λ q. IsEnded (Some q.start) (latest looks q.pid)) known

-- the group is empty, and what is known now was known before or is nothing
pub record IsGroupOver (s : Sights) (u w : GivenUp) : Type 0 where
  pub empty : IsGroupEmpty s w
  pub known : (w.known ≡ u.known) ⊎ (w.known ≡ [])
