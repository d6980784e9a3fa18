mod Example
pub mod Walk
pub mod Calm
pub mod Answers
pub mod Rim
