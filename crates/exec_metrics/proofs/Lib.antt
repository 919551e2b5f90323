pub mod FamilyLemmas
pub mod MetricsLemmas
pub mod TextLemmas
pub mod Examples
