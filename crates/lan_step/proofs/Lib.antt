pub mod Choosing
pub mod Injecting
pub mod Keeping
pub mod Offering
pub mod Places
pub mod Ticking
