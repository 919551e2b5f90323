pub mod Buffer
pub mod Lines
pub mod Pieces
pub mod Inputs
pub mod Tickers
pub mod Descriptors
pub mod Clock
pub mod Prefixes
