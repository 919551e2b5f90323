-- Examples: an agent whose group is 100, what it started, a service of an earlier start, and a process number that was used again.
use Rattle.std.proofs.Common.{◌≡◌, ◌⊎◌, ⊎_elim, inl, inr, ℕ, ◌≤◌, ◌<◌, false, List, [], ◌∷◌, Contains, refl, arith}
use Rattle.std.specs.List.{All}
use Rattle.std.proofs.lemmas.List.Elements.{All-contains, All-from_recursion}
use Rattle.proc_files.specs.Belongings.{Belongs, IsRoot, root, child}
use Rattle.proc_files.specs.Processes.{IsSame}
use Rattle.proc_files.specs.declared.process.Process.{Process}

abbrev process : ℕ → ℕ → ℕ → ℕ → Process
process pid parent group start = record { pid = pid; parent = parent; group = group; start = start; has_ended = false }

-- the agent, a child in its group, and a child of that which leads a group of its own
abbrev agent : Process
agent = process 100 40 100 7000

abbrev its_child : Process
its_child = process 101 100 100 7001

abbrev its_grandchild : Process
its_grandchild = process 102 101 102 7002

-- the parents of these have ended: a process that stayed in the agent's group, and a service of an earlier start
abbrev left : Process
left = process 103 1 100 7003

abbrev service : Process
service = process 90 1 80 3000

abbrev table : List Process
table = service ∷ its_grandchild ∷ agent ∷ its_child ∷ left ∷ []

abbrev Ends : Process → Type 0
Ends = Belongs table [] (100 ∷ [])

child_ends : Ends its_child
child_ends = root its_child (3, omega arith, refl) (inr (0, omega arith, refl))

grandchild_ends : Ends its_grandchild
grandchild_ends = child its_grandchild its_child (1, omega arith, refl) refl child_ends

left_ends : Ends left
left_ends = root left (4, omega arith, refl) (inr (0, omega arith, refl))

-- the child of a process that reaps orphans, whose number is 1, belongs to no action by its parent
each_number : All (λ p. 90 ≤ p.pid) table
each_number = All-from_recursion (λ p. 90 ≤ p.pid) table (omega arith, (omega arith, (omega arith, (omega arith, (omega arith, tt)))))

in_table : (p : Process) → Ends p → 90 ≤ p.pid
in_table p (root _ listed is) = All-contains (λ q. 90 ≤ q.pid) table p each_number listed
in_table p (child _ parent listed is belongs) = All-contains (λ q. 90 ≤ q.pid) table p each_number listed

only_100 : (group : ℕ) → Contains (100 ∷ []) group → group ≡ 100
only_100 group = All-contains (λ n. n ≡ 100) (100 ∷ []) group (All-from_recursion (λ n. n ≡ 100) (100 ∷ []) (refl, tt))

service_stays : Ends service → ⊥
service_stays (root _ listed is) = ⊎_elim (λ known. omega (arith, known.2)) (λ member. omega (arith, only_100 80 member)) is
service_stays (child _ parent listed is belongs) = omega (arith, is, in_table parent belongs)

-- a later process with the agent's number is another process
number_again : ¬ (IsSame agent (process 100 40 100 9000))
number_again same = omega (arith, same.start)
