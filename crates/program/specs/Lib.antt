pub mod Program
pub mod Laws
pub mod Examples
pub mod Internal
