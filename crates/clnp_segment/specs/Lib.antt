pub mod Cutting
pub mod Delivery
pub mod Joining
pub mod Laws
pub mod Store
pub mod Units
pub mod Whole
pub mod steps
