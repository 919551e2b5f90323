pub mod Commands
pub mod Ends
pub mod Histories
pub mod May
pub mod Sights
pub mod SystemView
