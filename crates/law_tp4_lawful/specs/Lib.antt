pub mod Called
pub mod First
pub mod Laws
pub mod Limits
pub mod Numbers
pub mod Own
pub mod References
