pub mod Families
pub mod Labels
pub mod Samples
pub mod Metrics
pub mod Held
