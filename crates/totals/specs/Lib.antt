pub mod Totals
pub mod Share
pub mod Motion
