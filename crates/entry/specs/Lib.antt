pub mod Checks
pub mod Entry
