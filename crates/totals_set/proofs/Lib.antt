pub mod CheckedParticle
pub mod Turns
