pub mod Inactive
pub mod Laws
pub mod Reading
