-- What only carries proofs: values of private types, one step of a loop.
pub mod Again
pub mod Known
pub mod Lent
pub mod There
pub mod Total
