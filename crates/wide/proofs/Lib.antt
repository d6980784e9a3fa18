pub mod Narrowing
pub mod Writing
