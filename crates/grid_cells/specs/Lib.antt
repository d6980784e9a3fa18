pub mod Cells
pub mod Plus
