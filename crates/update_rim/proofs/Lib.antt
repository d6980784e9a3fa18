pub mod Cleared
pub mod Band
pub mod Room
