pub mod Contents
pub mod Entries
pub mod Lines
