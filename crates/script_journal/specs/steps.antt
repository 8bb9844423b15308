-- What only carries the proof of a written line.
pub mod Written
