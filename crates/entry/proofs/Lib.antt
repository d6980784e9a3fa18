pub mod Tests
pub mod Entry
