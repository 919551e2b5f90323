pub mod Scripts
pub mod Scripted
