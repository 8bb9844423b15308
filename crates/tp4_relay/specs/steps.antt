-- What only carries the proofs: the marks of units, ends that rise, the table of a relay, and what a pump makes, and a service of the tests.
pub mod Doubled
pub mod Making
pub mod Marks
pub mod Rising
pub mod Serving
pub mod Tables
