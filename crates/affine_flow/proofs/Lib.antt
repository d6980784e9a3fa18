pub mod Pairs
pub mod Nodes
pub mod Steps
pub mod Flow
pub mod Worked
