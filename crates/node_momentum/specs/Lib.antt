pub mod Momentum
