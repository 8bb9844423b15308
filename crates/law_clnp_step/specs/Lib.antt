pub mod Handling
pub mod Laws
pub mod Network
pub mod Sound
pub mod Step
