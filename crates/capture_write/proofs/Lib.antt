pub mod Records
pub mod Appended
