pub mod Parts
pub mod Reading
pub mod Sets
pub mod Numbers
