pub mod Due
pub mod Knowing
pub mod Lines
pub mod Resting
