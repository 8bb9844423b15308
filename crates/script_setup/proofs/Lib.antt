pub mod Adding
pub mod Elements
pub mod Entities
pub mod Ports
pub mod Relays
pub mod Served
pub mod Starting
pub mod Wellness
