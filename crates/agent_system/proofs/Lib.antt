pub mod HistoryLemmas
pub mod PairLemmas
