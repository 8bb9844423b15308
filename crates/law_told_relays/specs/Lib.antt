pub mod Laws
pub mod Relays
