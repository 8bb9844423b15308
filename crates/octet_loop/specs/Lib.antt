pub mod ByStatus
pub mod Course
pub mod Limits
pub mod Outcome
pub mod Writing
pub mod steps
