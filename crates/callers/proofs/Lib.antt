pub mod Entry
pub mod Promises
pub mod Callers
