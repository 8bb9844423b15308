-- What only carries the proofs: how a generated script goes on.
pub mod Storming
