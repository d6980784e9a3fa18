pub mod Sums
pub mod Nodes
