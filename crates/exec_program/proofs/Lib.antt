pub mod ProgramLemmas
pub mod RequestLemmas
pub mod RunLemmas
pub mod SessionLemmas
pub mod StartLemmas
