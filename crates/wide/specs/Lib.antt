pub mod Values
pub mod Internal
