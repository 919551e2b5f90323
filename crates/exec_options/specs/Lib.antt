pub mod Subcommands
pub mod App
pub mod Arguments
pub mod Faults
