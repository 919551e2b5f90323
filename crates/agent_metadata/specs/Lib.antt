pub mod Asking
pub mod Codes
pub mod MetaCalls
pub mod MetaChildren
pub mod MetaOutputs
pub mod MetaRuns
