pub mod Locations
pub mod Programs
pub mod Variables
pub mod MetaVariables
pub mod Lists
pub mod Instances
pub mod Invocations
pub mod Keys
