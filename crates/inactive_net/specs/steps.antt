-- What only carries the proof.
pub mod Reading
