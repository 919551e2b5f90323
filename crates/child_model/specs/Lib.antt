pub mod Children
pub mod Lemmas
pub mod MayStart
