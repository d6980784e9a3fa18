pub mod Answers
pub mod Bounds
pub mod Example
pub mod Lines
pub mod Texts
