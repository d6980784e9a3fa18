pub mod Numbers
pub mod Nodes
