pub mod Ends
pub mod Headline
pub mod Ran
pub mod Went
