pub mod Set
pub mod Meaning
pub mod Walk
