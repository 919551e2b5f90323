pub mod Asked
pub mod Limits
pub mod Lines
pub mod Places
pub mod Requests
pub mod Services
pub mod Sites
pub mod Upkeeps
