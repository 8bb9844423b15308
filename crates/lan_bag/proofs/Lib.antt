pub mod Headers
pub mod Indices
pub mod LanLists
pub mod Offers
pub mod Openings
pub mod Picks
pub mod Stored
pub mod Wheels
