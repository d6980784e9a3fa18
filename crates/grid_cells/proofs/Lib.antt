pub mod Spots
pub mod Rows
pub mod Grids
