pub mod Capture
pub mod Course
pub mod Faults
pub mod Show
pub mod steps
