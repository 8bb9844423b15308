-- How a capture is read part by part: steps of the code that its private clauses name, and what they come to.
pub mod DecodingLaws
pub mod Fronts
pub mod Reading
