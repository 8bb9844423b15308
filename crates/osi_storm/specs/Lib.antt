pub mod Laws
pub mod Storm
pub mod steps
