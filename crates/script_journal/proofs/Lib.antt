pub mod CellKinds
pub mod Cutting
pub mod OneText
pub mod Partners
pub mod Showing
pub mod Tails
pub mod ToldBack
