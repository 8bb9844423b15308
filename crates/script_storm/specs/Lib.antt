pub mod Counted
pub mod Line
pub mod Read
pub mod Request
pub mod Summary
pub mod Words
