pub mod Faults
pub mod Flags
pub mod Grammar
pub mod Lifetime
pub mod Values
pub mod Writing
pub mod steps
