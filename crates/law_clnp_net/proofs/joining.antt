pub mod Arrivals
pub mod Beside
pub mod Brings
pub mod Fronts
pub mod Here
pub mod Left
pub mod Sent
