-- What only carries the proofs: what a part of a line tells and leaves, and how an entity is lent.
pub mod Lending
pub mod Parts
