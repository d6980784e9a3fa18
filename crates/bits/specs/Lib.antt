pub mod Bits
pub mod Internal
pub mod Layout
