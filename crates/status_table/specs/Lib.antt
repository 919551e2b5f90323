pub mod Remarks
pub mod Rows
