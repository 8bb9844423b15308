pub mod Faults
pub mod Grammar
pub mod Kinds
pub mod Parameters
pub mod Values
pub mod Writing
pub mod steps
