pub mod Claimed
pub mod Courses
pub mod Given
pub mod Runs
pub mod Telling
