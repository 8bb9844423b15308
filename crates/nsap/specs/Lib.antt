pub mod Address
pub mod Text
pub mod steps
