pub mod Arrivals
pub mod Joinings
pub mod Wires
pub mod Urgents
