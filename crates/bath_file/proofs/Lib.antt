pub mod Checks
pub mod Answers
pub mod Callers
pub mod RoundTrip
pub mod Records
pub mod Example
pub mod Fields
