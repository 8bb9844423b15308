pub mod Fitting
pub mod Inactive
pub mod SetUp
