-- The states in which a session begins.
use Rattle.std.specs.Prelude.{◌≡◌, true, []}
use Rattle.executor.specs.ExecutorView.{ExecutorView}
use Rattle.exec_client.specs.ClientView.{ClientView}
use Rattle.exec_client.specs.Tags.{no_tags}
use Rattle.session_machine.specs.Session.{SessionState, begun}
use Rattle.session_machine.specs.Starts.{Start}
use Rattle.session_machine.specs.declared.rules.Rules.{Rules}

-- nothing was sent to this client of an executor that is just opened, and no line was noted
pub record IsNew {S : Type 0} (client : ClientView S) (x : ExecutorView S) : Type 0 where
  pub opened : client.opened ≡ x
  pub reported : client.reported ≡ []
  pub tags : client.tags ≡ no_tags
  pub is_open : x.is_open ≡ true

-- it begins in this state
pub record IsFirst {S : Type 0} (s : SessionState S) : Type 0 where
  pub rules : Rules
  pub start : Start
  pub executor : ExecutorView S
  pub client : ClientView S
  pub is : s ≡ begun rules start executor client
  pub new : IsNew client executor
