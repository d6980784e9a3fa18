pub mod Filling
pub mod Sets
pub mod Parts
