pub mod Cutting
pub mod Kept
pub mod Pieces
pub mod SendingHalf
pub mod Settled
pub mod steps
