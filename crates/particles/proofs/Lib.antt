pub mod Checks
pub mod CheckedParticle
pub mod Turns
pub mod Accepted
pub mod Refusals
