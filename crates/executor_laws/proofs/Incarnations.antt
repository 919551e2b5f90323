-- Openings and crashes, one after the other.
pub mod Calls
pub mod Prefixes
pub mod Uptimes
pub mod Whole
pub mod Files
pub mod Lawful
