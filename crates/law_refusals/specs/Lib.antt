pub mod Laws
pub mod NextLine
