-- Agent processes and running actions.
use Rattle.std.specs.Prelude.{ℕ, ◌+◌, ◌≤◌, nat_eq, List, ◌++◌, length, Contains}
use Rattle.std.specs.List.{AllByRecursion, IsDistinct}
use Rattle.ocf_model.specs.State.{State}
use Rattle.exec_ledger.specs.Actives.{Active, active, runs_of}

-- The agent process of each running action lives, runs differ, and no more agent processes live than actions run.
pub record AgentsLive (s : State) (live : List ℕ) : Type 0 where
  pub each_lives : AllByRecursion (λ run. Contains live run) (runs_of (active s))
  pub distinct : IsDistinct nat_eq (runs_of (active s))
  pub few : length live ≤ length (active s)

-- The same while these actions, which have begun, are not spawned yet.
pub record AgentsLiveBut (s : State) (live : List ℕ) (begun : List Active) : Type 0 where
  pub each_lives : AllByRecursion (λ run. Contains (live ++ runs_of begun) run) (runs_of (active s))
  pub distinct : IsDistinct nat_eq (runs_of (active s))
  pub few : length live + length begun ≤ length (active s)
