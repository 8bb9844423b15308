pub mod Chains
pub mod Entries
pub mod Firsts
mod FletcherModulo
pub mod FletcherPair
mod FletcherRest
pub mod FletcherSealed
pub mod FletcherSums
pub mod Fronts
pub mod Gatherings
pub mod Members
pub mod Numbers
pub mod Raisings
pub mod Searches
pub mod Standings
pub mod Young
