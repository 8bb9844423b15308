pub mod Routes
pub mod steps
