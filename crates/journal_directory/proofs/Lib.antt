pub mod EndLemmas
pub mod WaitLemmas
