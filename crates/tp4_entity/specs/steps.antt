-- What only carries proofs.
pub mod Places
