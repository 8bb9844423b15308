pub mod Octets
pub mod Ordered
pub mod OutageOctets
pub mod Outages
pub mod Parting
mod Parts
pub mod Prompt
mod Quiet
mod Recovering
mod Starting
