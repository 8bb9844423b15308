pub mod Plays
pub mod Transports
pub mod steps
