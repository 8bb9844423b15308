pub mod Datagrams
pub mod Laws
