-- The processes that belong to actions, by their process groups and their descent: proc(5), stat, pgrp and ppid; POSIX, process group.
use Rattle.std.specs.Prelude.{◌≡◌, ◌⊎◌, ◌==◌, not, ℕ, ◌+◌, List, length, Contains}
use Rattle.std.specs.List.{filter}
use Rattle.proc_files.specs.Processes.{Has}
use Rattle.proc_files.specs.declared.process.Process.{Process}

-- a process is known, or a member of one of these groups
abbrev pub IsRoot : List Process → List ℕ → Process → Type 0
IsRoot known groups p = Has known p ⊎ Contains groups p.group

-- a process of the table belongs to actions: it is known, or a member of one of their groups, or its parent belongs to them
pub data Belongs (table known : List Process) (groups : List ℕ) : Process → Type 0 where
  root : (p : Process) → Contains table p → IsRoot known groups p → Belongs table known groups p
  child : (p parent : Process) → Contains table p → p.parent ≡ parent.pid → Belongs table known groups parent → Belongs table known groups p

-- the roots of a table, and its other processes
pub record IsParted (table known : List Process) (groups : List ℕ) (roots others : List Process) : Type 0 where
  pub root : (p : Process) → Contains roots p → Contains table p × IsRoot known groups p
  pub other : (p : Process) → Contains others p → Contains table p × ¬ (IsRoot known groups p)
  pub each : (p : Process) → Contains table p → Contains roots p ⊎ Contains others p
  pub count : length roots + length others ≡ length table

-- the children of the process with this number, and the other processes
abbrev pub children_of : ℕ → List Process → List Process
children_of pid processes = filter (λ p. p.parent == pid) processes

abbrev pub without_children_of : ℕ → List Process → List Process
without_children_of pid processes = filter (λ p. not (p.parent == pid)) processes
