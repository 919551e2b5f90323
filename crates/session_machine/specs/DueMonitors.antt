-- Monitors that are due.
use Rattle.std.specs.Prelude.{◌≡◌, ◌≤◌, ℕ, false, List, [], None, Contains, Result}
use Rattle.ocf_model.specs.Due.{Due, due_pairs}
use Rattle.ocf_model.specs.Resource.{Resource}
use Rattle.ocf_model.specs.State.{State}
use Rattle.ocf_types.specs.declared.outcome.StartFault.{StartFault}
use Rattle.child_model.specs.Children.{is_held, start_answer}
use Rattle.child_model.specs.declared.answer.Entry.{Entry}
use Rattle.exec_ledger.specs.Actives.{Active}

-- The resource of this entry runs nothing, has nothing queued and is not held, and a monitor of it is due at this moment.
pub record IsWaiting (held : List (List ℕ)) (due : Due) (at : ℕ) (e : List ℕ × Resource) : Type 0 where
  pub free : e.1.history.running ≡ None
  pub unqueued : e.1.history.queue ≡ []
  pub loose : is_held held e.0 ≡ false
  pub moment : ℕ
  pub call : ℕ
  pub monitor : Contains (due_pairs e.1.recurring (due e.0)) (moment, call)
  pub is_due : moment ≤ at

-- by this book the start of this run was requested
abbrev pub IsStartedBy : List Entry → ℕ → Type 0
IsStartedBy book run = (clock : ℕ) × (answer : Result Unit StartFault) × Contains book (record { run = run; at = clock; answer = start_answer answer })

-- by this book an action of this resource was started
abbrev pub StartsOf : List Entry → List ℕ → Type 0
StartsOf book id = (action : Active) × (action.id ≡ id) × IsStartedBy book action.running.run

-- by this book an action of each resource of this state with a monitor that is due was started
abbrev pub StartsDue : List Entry → List (List ℕ) → State → Due → ℕ → Type 0
StartsDue book held state due at =
    (entry : List ℕ × Resource) → Contains state.resources entry → IsWaiting held due at entry → StartsOf book entry.0
