pub mod Update
pub mod Rim
pub mod Internal
