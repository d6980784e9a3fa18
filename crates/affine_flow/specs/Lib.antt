pub mod Flow
pub mod Examples
