-- What only carries a proof.
pub mod Came
pub mod Flushed
pub mod Judged
pub mod Lost
pub mod Starting
