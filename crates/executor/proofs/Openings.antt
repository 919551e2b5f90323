-- An opening: its journal, its boot and its report.
pub mod Reporting
pub mod OnStores
pub mod Over
pub mod Ends
