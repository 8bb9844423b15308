pub mod Frames
pub mod Handlings
pub mod Options
pub mod Receivings
pub mod Reports
pub mod Sendings
pub mod Ticks
