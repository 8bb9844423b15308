pub mod Checksum
pub mod Field
pub mod FirstFault
pub mod Front
pub mod Laws
pub mod Lent
pub mod Number
pub mod Parameter
