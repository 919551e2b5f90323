pub mod BelongingLemmas
pub mod EndingLemmas
pub mod IndexLemmas
pub mod OverLemmas
