pub mod MetaLemmas
pub mod RunLemmas
