pub mod Example
pub mod Fields
pub mod Reading
pub mod RoundTrip
pub mod Valid
pub mod Writing
