-- What only carries the proof.
pub mod Indexed
pub mod Telling
