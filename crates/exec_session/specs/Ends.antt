-- How a whole session ends.
use Rattle.std.specs.Prelude.{◌≡◌, true, false, Result, Ok, Err}
use Rattle.store_model.specs.StoreView.{StoreView}
use Rattle.child_model.specs.Children.{AllEnded, ChildrenView}
use Rattle.executor.specs.ExecutorView.{ExecutorView}
use Rattle.exec_client.specs.ClientView.{ClientView}
use Rattle.exec_client.specs.MaySend.{IsBacked}
use Rattle.exec_faults.specs.declared.fault.Fault.{Fault}
use Rattle.exec_faults.specs.declared.fault.Fault.TheVariants.{Disk, InputOrOutput, ReplyMemory}
use Rattle.session_machine.specs.Behaviours.{HasBroken, IsBehaviour, Trace}
use Rattle.exec_session.specs.Standing.{IsOver}

-- A session that is here ends like this: it is over, with its executor open; or closed by a disk fault; or it broke off.
abbrev pub IsEnd : {S T : Type 0} → Trace S → Result T Fault → Type 0
IsEnd t (Ok done) = IsOver t.state.at × (t.state.executor.is_open ≡ true)
IsEnd t (Err Disk) = IsOver t.state.at × (t.state.executor.is_open ≡ false)
IsEnd t (Err InputOrOutput) = HasBroken t
IsEnd t (Err ReplyMemory) = HasBroken t
IsEnd t (Err _) = ⊥

-- A session that began like this ended: what happened is a behaviour of the machine, which ends here. At its end all agent processes are given up
-- and ended, and the agents and the store are given back.
pub record Ended {S C : Type 0} (view : S → StoreView) (tend : C → ChildrenView) (old new : Trace S) (ended : Result Unit Fault) (store : S)
    (children : C) : Type 0 where
  pub first : new.first ≡ old.first
  pub behaves : IsBehaviour view new
  pub is_end : IsEnd new ended
  pub store_is : store ≡ new.state.executor.store
  pub children_are : AllEnded new.state.executor.children (tend children)

-- However a session ends, its executor went on by calls alone since it was opened, and is closed; and all that its client was sent is
-- backed by what they recorded. This store and these agents are those that it gave back.
pub record ClosesByCalls {S : Type 0} (view : S → StoreView) (opened : ExecutorView S) (client_view : ClientView S) (store : S) (children : ChildrenView) : Type 0 where
  pub last : ExecutorView S
  pub holds : IsBacked view opened last client_view.reported
  pub is_closed : last.is_open ≡ false
  pub store_is : store ≡ last.store
  pub children_are : children ≡ last.children
