-- The machine of one resource, in changes, turns and calls of many.
pub mod Lists
pub mod Changes
pub mod Requests
pub mod Replies
pub mod Picks
pub mod CommandBatches
pub mod Begins
pub mod Turns
pub mod Runs
pub mod Joins
pub mod Batches
pub mod Finishes
pub mod Went
pub mod Calls
pub mod Examples
