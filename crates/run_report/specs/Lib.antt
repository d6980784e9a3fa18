pub mod RunReport
pub mod Internal
