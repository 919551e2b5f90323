pub mod LineLemmas
pub mod PieceLemmas
pub mod BufferLemmas
pub mod PrefixLemmas
pub mod AheadLemmas
