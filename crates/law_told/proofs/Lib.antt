pub mod Benches
pub mod Carriers
pub mod EndSteps
pub mod Events
pub mod FaultPlaces
pub mod Inactive
pub mod Lines
pub mod Network
pub mod Notes
pub mod Numbers
mod PduFaults
pub mod Plays
mod Reactions
pub mod Routed
mod Rows
pub mod Sends
mod Starting
pub mod Transports
pub mod Worlds
