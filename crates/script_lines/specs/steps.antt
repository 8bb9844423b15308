-- What only carries the proof of a line's reading.
pub mod Counted
pub mod Pairs
pub mod Split
