pub mod Entry
pub mod ThreeCalls
pub mod Repeated
