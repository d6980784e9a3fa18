mod Example
pub mod Nodes
pub mod Scattered
pub mod Adding
pub mod Lists
pub mod Sections
