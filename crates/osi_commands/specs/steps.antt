-- What only carries the proofs: the command that a word names.
pub mod Naming
