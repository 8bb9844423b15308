pub mod Given
pub mod Joins
pub mod Lawfully
pub mod Ran
pub mod Rebuilt
pub mod Stopping
pub mod Turning
pub mod Units
