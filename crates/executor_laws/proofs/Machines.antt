-- The machine: the calls of an executor, one step after the other, without its disk and its children.
pub mod Calls
pub mod Incarnations
pub mod Follows
pub mod Runs
pub mod Reports
pub mod Claims
pub mod Examples
