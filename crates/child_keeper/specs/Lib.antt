pub mod Agents
pub mod Keepers
pub mod Openings
pub mod Processes
pub mod Waits
