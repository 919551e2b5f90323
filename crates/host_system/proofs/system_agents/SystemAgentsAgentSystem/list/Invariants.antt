use Rattle.std.specs.Prelude.{option_map}
use Rattle.std.specs.Result.{result_ok}
use Rattle.agent_system.specs.SystemView.{after_list}
use Rattle.host_system.proofs.system_agents.SystemAgentsAgentSystem.list.Given as goal

abbrev pub ghost-follow : goal.ghost-follow
ghost-follow g a = after_list a.self.now.view (option_map (λ table. table.items) (result_ok a.call.now))
