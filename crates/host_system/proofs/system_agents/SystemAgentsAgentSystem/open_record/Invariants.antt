use Rattle.std.specs.Prelude.{option_map}
use Rattle.std.specs.Result.{result_ok}
use Rattle.agent_system.specs.SystemView.{after_open, entries_of}
use Rattle.host_system.proofs.system_agents.SystemAgentsAgentSystem.open_record.Given as goal

abbrev pub ghost-follow : goal.ghost-follow
ghost-follow a = after_open a.self.now.view (option_map entries_of (result_ok a.call.now))
