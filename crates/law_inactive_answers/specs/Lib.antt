pub mod Laws
pub mod Offering
pub mod Standing
