pub mod Ends
pub mod Questions
