-- What only carries the proofs: where a line that is read comes from, and the laws of the bench.
pub mod BenchLaws
pub mod Came
pub mod Moves
