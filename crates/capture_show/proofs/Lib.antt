pub mod Addresses
pub mod Frames
pub mod Listing
pub mod OneShow
pub mod Tails
pub mod Tpdus
pub mod Units
