pub mod Bytes
pub mod Held
pub mod Layouts
pub mod Parts
pub mod Shifts
pub mod TwosComplement
