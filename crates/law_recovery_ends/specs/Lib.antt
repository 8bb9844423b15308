pub mod Due
pub mod Knowing
pub mod Laws
pub mod Lines
pub mod Resting
