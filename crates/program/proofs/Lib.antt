pub mod Grids
pub mod Kept
pub mod Files
pub mod Longer
mod Example
