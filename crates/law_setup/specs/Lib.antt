pub mod Agreeing
pub mod ClnpNets
pub mod Entities
pub mod InactiveNets
pub mod Laws
pub mod Lines
pub mod Networks
