-- Starts: the invocation of an agent, as the registry and the site give it. OCF Resource Agent API 1.1, invocation.
use Rattle.std.specs.Prelude.{◌≡◌, List, Option, Some, map}
use Rattle.std.specs.List.{AllByRecursion}
use Rattle.ocf_model.specs.Resource.{Resource}
use Rattle.ocf_model.specs.State.{State, resource_at}
use Rattle.ocf_env.specs.Instances.{registration_of}
use Rattle.ocf_env.specs.Invocations.{IsInvocation}
use Rattle.ocf_env.specs.Locations.{Call, SiteView}
use Rattle.child_model.specs.MayStart.{IsLaunch}
use Rattle.exec_ledger.specs.Actives.{Active}
use Rattle.exec_turn.specs.declared.picks.StartOf.{StartOf}

-- the action of a start
abbrev pub action_of_start : StartOf Call → Active
action_of_start x = record { id = x.launch.id; running = x.running }

abbrev pub actions_of_starts : List (StartOf Call) → List Active
actions_of_starts xs = map action_of_start xs

-- the launch is that of the action
abbrev pub HasOwnLaunch : StartOf Call → Type 0
HasOwnLaunch x = (x.launch.call ≡ x.running.call) × (x.launch.run ≡ x.running.run)

-- a start has the launch of its own action: of the registered agent, with the current parameters
pub record IsStart (site : SiteView) (s : State) (x : StartOf Call) : Type 0 where
  pub resource : Resource
  pub is : resource_at s x.launch.id ≡ Some resource
  pub of_one : HasOwnLaunch x
  pub invocation : IsInvocation site (registration_of x.launch.id resource) x.running x.launch.invocation

-- each of these launches an action that runs in this state, at a site at which the children start agents
abbrev pub AllLaunch : Option SiteView → State → List (StartOf Call) → Type 0
AllLaunch named s starts = AllByRecursion (λ x. IsLaunch named s x.launch) starts
