pub mod Frames
pub mod Laws
pub mod Network
pub mod Rows
pub mod Sound
pub mod Step
pub mod Way
