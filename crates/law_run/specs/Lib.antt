pub mod Bench
pub mod Calm
pub mod Laws
pub mod Outage
pub mod Recovery
pub mod Serving
pub mod Transcript
pub mod World
