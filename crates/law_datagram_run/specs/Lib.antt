pub mod Datagrams
pub mod Users
