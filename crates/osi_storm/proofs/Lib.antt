pub mod Courses
pub mod Generated
pub mod Storming
pub mod Summaries
