-- What only carries proofs.
pub mod Kept
