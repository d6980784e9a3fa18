pub mod Transfer
pub mod Internal
