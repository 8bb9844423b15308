-- What only carries proofs: reading a PDU from left to right, and lowering its fourth octet.
pub mod Lowering
pub mod Reading
