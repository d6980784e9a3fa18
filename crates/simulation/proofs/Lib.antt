pub mod Records
pub mod Fields
pub mod Steps
pub mod Refusals
pub mod Chains
pub mod Calls
pub mod Conserved
pub mod Plain
mod Example
pub mod Particles
pub mod Turns
pub mod Runs
pub mod Entry
