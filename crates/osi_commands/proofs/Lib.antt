pub mod Carrying
pub mod InMemory
pub mod StormWords
