pub mod Each
pub mod Ends
mod Heard
mod Ran
mod Sent
