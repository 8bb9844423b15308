-- What only carries the proofs: what the law says of accepts, and the story of the associations beside a network.
pub mod Confirms
