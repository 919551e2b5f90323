pub mod Emptied
pub mod Ends
