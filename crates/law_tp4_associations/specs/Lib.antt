pub mod Association
pub mod Ended
pub mod Handing
pub mod Laws
pub mod Phase
pub mod Standing
pub mod Ticking
