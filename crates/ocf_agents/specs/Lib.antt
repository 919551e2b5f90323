pub mod Agents
pub mod Calls
pub mod Table
