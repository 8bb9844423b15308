pub mod Course
pub mod Laws
pub mod Limits
pub mod Lines
pub mod Meaning
pub mod Outcome
pub mod Writing
pub mod steps
