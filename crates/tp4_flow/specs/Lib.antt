pub mod ReceivingHalf
pub mod Told
pub mod steps
