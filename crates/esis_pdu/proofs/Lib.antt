pub mod Addresses
pub mod Checksums
pub mod Drafts
pub mod Fields
pub mod Grammar
pub mod Lengths
pub mod Outcome
pub mod Parts
