pub mod Spline
pub mod Moments
pub mod Test
pub mod Answers
pub mod Kernel
