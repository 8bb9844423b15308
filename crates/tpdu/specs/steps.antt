-- What only carries proofs: reading from left to right, and the sums of data.
pub mod Reading
pub mod Sums
