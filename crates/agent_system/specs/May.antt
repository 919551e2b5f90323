-- What may be asked of the system.
use Rattle.std.specs.Prelude.{◌≡◌, ◌≢◌, ◌↔◌, ◌⊎◌, ◌==◌, ◌&&◌, ℕ, Bool, true, false, List, [], ◌∷◌, ◌++◌, Option, Some, None, All, Contains, IfSome, IsTrue, slice_get, filter, not, if◌then◌else◌}
use Rattle.std.specs.List.{list_any}
use Rattle.agent_system.specs.Sights.{GivenUp, HasEnded, IsOther, Lives, Sights, latest}
use Rattle.agent_system.specs.declared.agent_process.AgentProcess.{AgentProcess}
use Rattle.agent_system.specs.declared.signal.Target.{Target}
use Rattle.agent_system.specs.declared.signal.Target.TheVariants as target
use Rattle.child_model.specs.MayStart.{MayStart}
use Rattle.ocf_env.specs.Locations.{Call}
use Rattle.ocf_env.specs.declared.launches.LaunchOf.{LaunchOf}
use Rattle.proc_files.specs.Belongings.{Belongs}
use Rattle.proc_files.specs.declared.process.Process.{Process}
use Rattle.store_model.specs.StoreView.{StoreView}

-- no process of an action of this resource is known: none lives, and none that was given up may be left
pub record IsFree (s : Sights) (id : List ℕ) : Type 0 where
  pub live : All (λ p. p.id ≢ id) s.live
  pub given_up : All (λ u. u.process.id ≢ id) s.given_up

-- an agent may be spawned for a launch: its begin is durable, and its resource is free
pub record MaySpawn (s : Sights) (store : StoreView) (launch : LaunchOf Call) : Type 0 where
  pub begun : MayStart None store launch
  pub free : IsFree s launch.id

-- after this answer about its number, the group of what was given up is still its own: its number was not given again. POSIX, fork
abbrev pub IsItsGroup : GivenUp → Option (Option (Option Process)) → Type 0
IsItsGroup u None = ⊥
IsItsGroup u (Some answer) = (u.is_child ≡ true) ⊎ ¬ (IsOther u.process.start answer)

-- the process was seen last with this answer about its number, and lives
abbrev pub IsSeen : Process → Option (Option (Option Process)) → Type 0
IsSeen q None = ⊥
IsSeen q (Some answer) = Lives q answer

-- a group may be signalled: that of an agent that was given up, after a look at its number, and not that of this process
pub record MayGroup (s : Sights) (group : ℕ) : Type 0 where
  pub of : GivenUp
  pub given_up : Contains s.given_up of
  pub number : of.process.pid ≡ group
  pub its : IsItsGroup of (latest s.looks group)
  pub other : IfSome s.own (λ own. own.group ≢ group)

-- a process may be signalled: it is known to belong to an agent that was given up, and was seen to live
pub record MayProcess (s : Sights) (pid : ℕ) : Type 0 where
  pub of : GivenUp
  pub given_up : Contains s.given_up of
  pub process : Process
  pub known : Contains of.known process
  pub number : process.pid ≡ pid
  pub seen : IsSeen process (latest s.looks pid)

abbrev pub MaySignal : Sights → Target → Type 0
MaySignal s (target.Process pid) = MayProcess s pid
MaySignal s (target.Group group) = MayGroup s group

-- a process of a listing is the agent's: it has its number and its start, or just its number, while that cannot be another's
abbrev pub is_start : GivenUp → ℕ → Bool
is_start u start = is_start_of u.process.start
  where
    is_start_of : Option ℕ → Bool
    is_start_of None = u.is_child
    is_start_of (Some own) = own == start

abbrev pub is_agent : GivenUp → Process → Bool
is_agent u p = (p.pid == u.process.pid) && is_start u p.start

abbrev pub is_other : GivenUp → Process → Bool
is_other u p = (p.pid == u.process.pid) && not (is_start u p.start)

-- the agent's process in a listing, and its group, unless its number is another's there
abbrev pub agents_in : GivenUp → List Process → List Process
agents_in u table = filter (is_agent u) table

abbrev pub groups_in : GivenUp → List Process → List ℕ
groups_in u table = if list_any (is_other u) table then [] else u.process.pid ∷ []

-- these are exactly the processes of a listing that belong to what was given up and have not ended: those known before, the agent, the
-- members of its group, and the descendants of all of these
abbrev pub AreAll : GivenUp → List Process → List Process → Type 0
AreAll u table found =
    (p : Process) → Contains found p ↔ (Belongs table (u.known ++ agents_in u table) (groups_in u table) p × (p.has_ended ≡ false))

-- processes may be kept as those that belong to it: they are all of the last listing
abbrev pub MayKeep : Sights → GivenUp → List Process → Type 0
MayKeep s u found = (table : List Process) × (s.table ≡ Some table) × AreAll u table found

-- the last answer about a number, if there is one, shows that the process with this start has ended
abbrev pub IsEnded : Option ℕ → Option (Option (Option Process)) → Type 0
IsEnded start None = ⊥
IsEnded start (Some answer) = HasEnded start answer

abbrev pub IsOthers : Option ℕ → Option (Option (Option Process)) → Type 0
IsOthers start None = ⊥
IsOthers start (Some answer) = IsOther start answer

-- a listing shows no member of the group of what was given up that has not ended, or another process that has its number
abbrev pub HasNoMember : GivenUp → List Process → Type 0
HasNoMember u table = IsTrue (list_any (is_other u) table) ⊎ All (λ p. p.group ≡ u.process.pid → p.has_ended ≡ true) table

-- the group of what was given up has no member, as the system said or as it listed, or its number is another's
abbrev pub IsGroupEmpty : Sights → GivenUp → Type 0
IsGroupEmpty s u =
    Contains s.empty u.process.pid ⊎ IsOthers u.process.start (latest s.looks u.process.pid)
    ⊎ ((table : List Process) × (s.table ≡ Some table) × HasNoMember u table)

-- what was given up is over, as far as the system's answers say: the agent was reaped and has ended, its group is empty, and all that was
-- known to belong to it has ended
pub record IsOver (s : Sights) (u : GivenUp) : Type 0 where
  pub reaped : u.is_child ≡ false
  pub agent : IsEnded u.process.start (latest s.looks u.process.pid)
  pub group : IsGroupEmpty s u
  pub known : All (λ q. IsEnded (Some q.start) (latest s.looks q.pid)) u.known

-- what was given up at this index is this process, a child that was not reaped
abbrev pub IsChildAt : Sights → ℕ → AgentProcess → Type 0
IsChildAt s at p = (u : GivenUp) × (slice_get s.given_up at ≡ Some u) × (u.process ≡ p) × (u.is_child ≡ true)

-- these processes may be kept for what was given up at this index
abbrev pub MayKeepAt : Sights → ℕ → List Process → Type 0
MayKeepAt s at found = (u : GivenUp) × (slice_get s.given_up at ≡ Some u) × MayKeep s u found

-- what was given up at this index is over
abbrev pub IsOverAt : Sights → ℕ → Type 0
IsOverAt s at = (u : GivenUp) × (slice_get s.given_up at ≡ Some u) × IsOver s u
