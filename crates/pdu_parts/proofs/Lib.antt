pub mod Addresses
pub mod Parameters
pub mod Readings
