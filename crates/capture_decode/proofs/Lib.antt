pub mod Exclusion
pub mod OneAnswer
pub mod Parts
pub mod Taking
pub mod Totality
