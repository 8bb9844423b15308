pub mod Bag
pub mod Frames
pub mod Offers
pub mod Reading
pub mod Receivers
pub mod Rows
