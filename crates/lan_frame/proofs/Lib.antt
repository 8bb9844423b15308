mod Framing
pub mod Header
mod Put
