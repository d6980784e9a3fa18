pub mod Layout
pub mod File
