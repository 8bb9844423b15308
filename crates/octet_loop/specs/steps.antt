-- How the loop goes on, piece by piece: steps of the code that its clauses name.
pub mod Driving
pub mod Taking
