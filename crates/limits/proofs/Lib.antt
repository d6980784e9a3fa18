pub mod Callers
pub mod Flags
pub mod Within
