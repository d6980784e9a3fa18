pub mod Momenta
pub mod Line
pub mod Block
