pub mod AppLemmas
pub mod WordsLemmas
