pub mod FirstDue
pub mod Recurs
pub mod DueLists
pub mod Dues
pub mod Tournament
pub mod Tied
pub mod AnyDue
