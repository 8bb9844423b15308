pub mod Closing
pub mod Driving
pub mod Exact
pub mod Written
