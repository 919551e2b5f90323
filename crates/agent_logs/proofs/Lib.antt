pub mod ReasonLemmas
pub mod Examples
