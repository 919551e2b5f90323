pub mod Seen
pub mod StateValue
pub mod Resting
pub mod RegistryView
pub mod MonitorsAfter
pub mod Lawful
pub mod Answers
