pub mod Names
pub mod Form
pub mod Operations
pub mod Internal
pub mod Calls
