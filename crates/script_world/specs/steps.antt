-- What only carries the proofs: what goes on from line to line, and the laws of the stage and of what it runs.
pub mod Staged
pub mod Transported
