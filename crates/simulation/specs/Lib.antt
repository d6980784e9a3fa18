pub mod Step
pub mod Run
pub mod Demand3
pub mod PlainDemand3
pub mod Internal
