pub mod Octets
pub mod Rest
pub mod Units
