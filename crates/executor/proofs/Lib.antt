pub mod Keeping
pub mod Openings
pub mod Sessions
pub mod Sharing
