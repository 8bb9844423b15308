pub mod Ending
pub mod Faulty
pub mod Joining
pub mod Keeping
pub mod Near
pub mod Received
pub mod Started
