pub mod Claims
pub mod Each
pub mod Laws
