pub mod Packing
pub mod Internal
