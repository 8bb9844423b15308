pub mod Asked
pub mod Notes
pub mod Relays
pub mod Rows
pub mod Services
pub mod Through
