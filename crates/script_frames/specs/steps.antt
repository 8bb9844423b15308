-- What only carries the proofs: the laws of the machine that tells frames.
pub mod FrameLaws
