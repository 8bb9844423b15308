-- What only carries a proof.
pub mod Places
pub mod Least
pub mod Deadlines
pub mod Tags
