-- Sessions, as lists of inputs.
pub mod Growing
