-- What only carries proofs: reading from left to right, and what is told while all that waits is taken up.
pub mod Reading
pub mod TakingUp
