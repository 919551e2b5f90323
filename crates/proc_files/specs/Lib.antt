pub mod Pieces
pub mod Signals
pub mod Processes
pub mod Stats
pub mod Belongings
