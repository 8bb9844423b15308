pub mod Acts
pub mod Bench
pub mod Claims
pub mod Script
pub mod Scripts
pub mod Text
pub mod Told
pub mod steps
