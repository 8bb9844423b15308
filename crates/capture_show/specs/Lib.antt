pub mod Ends
pub mod Hellos
pub mod Pdus
pub mod Shown
pub mod Texts
pub mod Tpdus
pub mod steps
