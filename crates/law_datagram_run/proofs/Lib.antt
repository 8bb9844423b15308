pub mod Moving
pub mod Peopled
pub mod Played
