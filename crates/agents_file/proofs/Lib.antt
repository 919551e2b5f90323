pub mod ContentsLemmas
pub mod EntryLemmas
pub mod Examples
pub mod HeadLemmas
pub mod LineLemmas
