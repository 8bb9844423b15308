-- What only carries the proofs: what is told while all that waits is taken up.
pub mod TakingUp
