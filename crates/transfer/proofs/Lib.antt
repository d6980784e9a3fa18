pub mod Sets
pub mod Moving
pub mod Scatters
pub mod Velocities
pub mod Gathers
