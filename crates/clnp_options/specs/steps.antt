-- What only carries proofs: reading option by option.
pub mod Walking
