pub mod ThreeCalls
pub mod Repeated
