pub mod Endings
pub mod Failed
pub mod Shown
pub mod StatusLines
