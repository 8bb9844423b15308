-- What only carries proofs: the steps of private calls.
pub mod Shown
