pub mod Checks
pub mod Record
pub mod Walk
pub mod Kept
