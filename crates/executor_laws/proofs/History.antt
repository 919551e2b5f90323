-- The order in the events that remain: begins, ends and interruptions.
pub mod Events
pub mod Runs
pub mod TurnAnswers
pub mod Order
pub mod Examples
