-- What only carries proofs: places one by one, the runs that stand for them, a segment as the code hands it on, and the search for a unit that is due.
pub mod Due
pub mod Incoming
pub mod Places
pub mod Spans
