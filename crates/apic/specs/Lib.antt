pub mod Step
pub mod Totals
pub mod Limits
pub mod Motion
