pub mod Always
pub mod Exactly
pub mod Once
