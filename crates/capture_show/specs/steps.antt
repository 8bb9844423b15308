-- What only carries the proof of written lines.
pub mod Units
pub mod Written
