-- The agents' processes that this program spawned.
use Rattle.agent_system.specs.declared.agent_process.AgentProcess.{AgentProcess}
use Rattle.host_system.specs.declared.system_agents.AgentChild.{AgentChild}

abbrev pub child_process : AgentChild → AgentProcess
child_process c = c.process
