pub mod PieceLemmas
pub mod SignalLemmas
pub mod StatLemmas
pub mod StatExamples
pub mod BelongingLemmas
pub mod Examples
