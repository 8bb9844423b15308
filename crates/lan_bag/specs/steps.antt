pub mod Index
pub mod Openings
pub mod Setting
pub mod Standing
pub mod Store
pub mod Wheel
