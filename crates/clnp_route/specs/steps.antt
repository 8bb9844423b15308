-- What only carries a proof.
pub mod Best
