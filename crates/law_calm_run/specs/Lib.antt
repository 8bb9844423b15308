pub mod Confirms
pub mod Pairs
pub mod Run
pub mod Service
pub mod steps
