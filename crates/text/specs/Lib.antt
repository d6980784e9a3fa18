pub mod Decimal
pub mod Internal
