pub mod Addresses
pub mod Faults
pub mod Hellos
pub mod Laws
pub mod Lent
pub mod steps
