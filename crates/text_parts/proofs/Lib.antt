pub mod Pairs
pub mod Windows
