-- What only carries proofs: reading from left to right, and what is written before it is sealed.
pub mod Reading
pub mod Writing
