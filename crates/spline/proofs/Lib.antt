pub mod Table
pub mod Axis
pub mod Spline
pub mod Offsets
pub mod Rows
pub mod Weigh
