pub mod EndingLemmas
pub mod FailedLemmas
pub mod StatusLineLemmas
pub mod TextLemmas
pub mod WrittenLemmas
