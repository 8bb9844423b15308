-- How the loop goes on, piece by piece: steps of the code that its private clauses name.
pub mod Feeding
pub mod Joined
pub mod Taking
