pub mod History
pub mod OneHistory
