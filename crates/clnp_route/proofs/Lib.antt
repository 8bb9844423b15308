pub mod Longest
pub mod Prefixes
