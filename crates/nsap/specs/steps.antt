pub mod Digits
pub mod Padded
