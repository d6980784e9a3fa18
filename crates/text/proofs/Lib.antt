pub mod Digits
pub mod Filling
pub mod Puts
pub mod Texts
